use Rattle.std.proofs.Common.{sym, ◌∙◌}
use Rattle.m386_asm.specs.Layout.{names_of}
use Rattle.m386_lines.specs.Seen.{statement_seen}
use Rattle.m386_asm.specs.Limits.{limit_seen}
use Rattle.std.specs.Prelude.{map}
use Rattle.m386_asm.proofs.Tested.{value_outside, ends_outside}
use Rattle.m386_asm.proofs.kinds.exceeds.Goals as goal

pub returns-then-has_value_outside : goal.returns-then-has_value_outside
returns-then-has_value_outside c = λ ls before l m at e f.
    c.if-has_value_outside.true ∙ value_outside ls before l c.args.survey.now c.args.spot m (statement_seen c.args.statement.now) (map limit_seen c.args.fields.now) at e f (sym (c.has_value_outside.ensures (names_of ls) at.survey_is.knows) ∙ c.if-has_value_outside.true)

pub returns-else-has_value_outside : goal.returns-else-has_value_outside
returns-else-has_value_outside c = λ ls before l m at e f.
    c.is_above_memory.ensures ∙ ends_outside ls before l c.args.survey.now c.args.spot m (statement_seen c.args.statement.now) (map limit_seen c.args.fields.now) at e f (sym (c.has_value_outside.ensures (names_of ls) at.survey_is.knows) ∙ c.if-has_value_outside.false)
