use Rattle.std.proofs.Common.{ℕ, not}
use Rattle.std.specs.List.{list_any}
use Rattle.std.specs.Prelude.{map}
use Rattle.m386_words.specs.Expressions.{Expression}
use Rattle.m386_lines.specs.Seen.{statement_seen}
use Rattle.m386_asm.specs.Layout.{is_in_field, value, keeps_limits}
use Rattle.m386_asm.specs.Limits.{limit_seen}
use Rattle.m386_asm.proofs.Tested.{or_then, or_else}
use Rattle.m386_asm.proofs.kinds.has_value_outside.Goals as goal

pub returns-then-is_outside_fields : goal.returns-then-is_outside_fields
returns-then-is_outside_fields c = λ ns knows.
    or_then c.is_outside_fields.result (list_any (λ (f : ℕ × Expression). not (is_in_field f.0 (value ns f.1))) (map limit_seen c.args.fields.now))
    (not (keeps_limits ns c.args.survey.now.memory c.args.survey.now.cpus (statement_seen c.args.statement.now))) (c.is_outside_fields.ensures ns knows) c.if-is_outside_fields.true

pub returns-else-is_outside_fields : goal.returns-else-is_outside_fields
returns-else-is_outside_fields c = λ ns knows.
    or_else c.is_outside_fields.result (list_any (λ (f : ℕ × Expression). not (is_in_field f.0 (value ns f.1))) (map limit_seen c.args.fields.now)) c.keeps_limits.result
    (keeps_limits ns c.args.survey.now.memory c.args.survey.now.cpus (statement_seen c.args.statement.now)) (c.is_outside_fields.ensures ns knows) c.if-is_outside_fields.false (c.keeps_limits.ensures ns knows)
