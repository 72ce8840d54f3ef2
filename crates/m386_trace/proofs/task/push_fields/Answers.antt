use Rattle.std.proofs.Common.{arith}
use Rattle.m386_trace.proofs.Tasks.{no_fields, fields_next}
use Rattle.m386_trace.proofs.task.push_fields.Goals as goal

pub loop-number-init : goal.loop-number-init
loop-number-init c = record { bytes = no_fields _ _ _; len = omega arith }

pub loop-number-preserved : goal.loop-number-preserved
loop-number-preserved c = record {
  bytes = fields_next _ _ c.loop-number.number _ _ _ c.loop-number.invariant.bytes c.push_field.ensures.bytes;
  len = omega (arith, c.loop-number.invariant.len, c.push_field.ensures.len);
}
