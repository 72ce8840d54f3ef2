-- The rows not yet looked at have the answer.
use Rattle.std.proofs.Common.{◌≡◌, drop}
use Rattle.m386_opmap.specs.Rows.{row_of}
use Rattle.m386_opmap.proofs.reading.beginning.Given as goal

abbrev pub invariant-loop-row : goal.invariant-loop-row
invariant-loop-row l = row_of l.lock l.opcode (drop l.row-index l.rows) ≡ row_of l.lock l.opcode l.rows
