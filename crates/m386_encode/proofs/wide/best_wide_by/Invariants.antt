-- The rows looked at are met.
use Rattle.std.proofs.Common.{◌<◌, ℕ, get_or}
use Rattle.m386_encode.specs.Shortest.{no_row}
use Rattle.m386_encode.specs.Wide.{IsWideSound, IsMetWide, IsOffered}
use Rattle.m386_encode.proofs.wide.best_wide_by.Given as goal

abbrev pub invariant-loop-row : goal.invariant-loop-row
invariant-loop-row l = record {
  wide : IsWideSound l.op l.best;
  met : (i : ℕ) → i < l.row-index → IsOffered l.op (get_or l.rows i no_row) → IsMetWide l.op l.best (get_or l.rows i no_row);
}
