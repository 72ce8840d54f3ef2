use Rattle.std.proofs.Common.{◌∙◌, sym, ap, not}
use Rattle.m386_asm.specs.Layout.{is_in_field, value}
use Rattle.m386_asm.specs.Limits.{limit_seen}
use Rattle.m386_asm.proofs.Passing.{passes_at, none_passes}
use Rattle.m386_asm.proofs.limits.is_outside_fields.Goals as goal

pub returns-then-not-is_held : goal.returns-then-not-is_held
returns-then-not-is_held c = λ ns k.
    passes_at (λ f. not (is_in_field f.0 (value ns f.1))) limit_seen c.args.fields.now c.loop-field.field-index c.field-item.result c.loop-field-test.true c.field-item.is
    (ap not (sym (c.is_held.ensures ns k) ∙ c.if-not-is_held.true))

pub returns : goal.returns
returns c = λ ns k. none_passes (λ f. not (is_in_field f.0 (value ns f.1))) limit_seen c.args.fields.now c.loop-field.field-index (c.loop-field.invariant ns k) c.loop-field-test.false
