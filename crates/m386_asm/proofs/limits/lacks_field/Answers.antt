use Rattle.std.proofs.Common.{◌∙◌, sym}
use Rattle.m386_asm.specs.Layout.{is_unknown}
use Rattle.m386_asm.specs.Limits.{limit_seen}
use Rattle.m386_asm.proofs.Passing.{passes_at, none_passes}
use Rattle.m386_asm.proofs.limits.lacks_field.Goals as goal

pub returns-then-lacks : goal.returns-then-lacks
returns-then-lacks c = λ ns k. passes_at (λ f. is_unknown ns f.1) limit_seen c.args.fields.now c.loop-field.field-index c.field-item.result c.loop-field-test.true c.field-item.is (sym (c.lacks.ensures ns k) ∙ c.if-lacks.true)

pub returns : goal.returns
returns c = λ ns k. none_passes (λ f. is_unknown ns f.1) limit_seen c.args.fields.now c.loop-field.field-index (c.loop-field.invariant ns k) c.loop-field-test.false
