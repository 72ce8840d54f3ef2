use Rattle.std.proofs.Common.{◌∙◌, sym}
use Rattle.m386_lines.specs.Seen.{statement_seen}
use Rattle.m386_asm.specs.Layout.{is_unknown, fields_of, limited}
use Rattle.m386_asm.proofs.Passing.{others_pass}
use Rattle.m386_asm.proofs.limits.has_unknown_name.Goals as goal

pub returns-else-lacks_limited : goal.returns-else-lacks_limited
returns-else-lacks_limited c = λ ns k e.
    let s = statement_seen c.args.statement.now in
    others_pass (is_unknown ns) (limited s) (fields_of s) _ _ (sym (c.lacks_limited.ensures ns k) ∙ c.if-lacks_limited.false) e (c.lacks_field.ensures ns k)
