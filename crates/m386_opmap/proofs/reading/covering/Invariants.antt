-- The rows not yet looked at have the answer.
use Rattle.std.proofs.Common.{◌≡◌, drop}
use Rattle.m386_opmap.specs.Rows.{row_at}
use Rattle.m386_opmap.proofs.reading.covering.Given as goal

abbrev pub invariant-loop-row : goal.invariant-loop-row
invariant-loop-row l = row_at l.key (drop l.row-index l.rows) ≡ row_at l.key l.rows
