-- The rows looked at are met.
use Rattle.std.proofs.Common.{◌≡◌, ◌<◌, ℕ, get_or}
use Rattle.m386_encode.specs.Shortest.{IsSound, IsMet, no_row}
use Rattle.m386_encode.proofs.encode.best_by.Given as goal

abbrev pub invariant-loop-row : goal.invariant-loop-row
invariant-loop-row l = record {
  sound : IsSound l.op l.best;
  met : (i : ℕ) → i < l.row-index → (get_or l.rows i no_row).name ≡ l.op.name → IsMet l.op l.best (get_or l.rows i no_row);
}
