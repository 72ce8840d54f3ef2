use Rattle.std.proofs.Common.{◌≡◌, ◌≤◌, ◌+◌, ◌*◌, ◌++◌}
use Rattle.arrayvec.specs.ArrayString.{array_string_len}
use Rattle.m386_base.specs.declared.ask.Space.TheVariants.{Memory}
use Rattle.m386_memory.specs.Contents.{byte_in}
use Rattle.m386_trace.specs.Line.{spaced}
use Rattle.m386_trace.specs.Tasks.{fields_below}
use Rattle.m386_trace.proofs.task.push_fields.Given as goal

abbrev pub invariant-loop-number : goal.invariant-loop-number
invariant-loop-number l = record {
  bytes : l.line.bytes ≡ l.initial.line.bytes ++ spaced (fields_below (byte_in l.store Memory) l.base l.number);
  len : array_string_len l.line ≤ array_string_len l.initial.line + 14 * l.number;
}
