-- A row that isn't offered is met too.
use Rattle.std.proofs.Common.{◌≡◌, ℕ, true, get_or}
use Rattle.m386_encode.specs.Shortest.{no_row}
use Rattle.m386_encode.specs.Wide.{IsMetWide, IsOffered}
use Rattle.m386_encode.proofs.Below.{below_next}
use Rattle.m386_encode.proofs.wide.best_wide_by.Goals as goal

pub loop-row-preserved-then-not-is_offered : goal.loop-row-preserved-then-not-is_offered
loop-row-preserved-then-not-is_offered c =
    let P : ℕ → Type 0 = λ i. IsOffered c.args.op.now (get_or c.args.rows.now i no_row) → IsMetWide c.args.op.now c.loop-row.best (get_or c.args.rows.now i no_row) in
    record {
      wide = c.loop-row.invariant.wide;
      met = below_next P c.loop-row.row-index c.loop-row.invariant.met (λ o. let yes : c.is_offered.result ≡ true = c.is_offered.ensures.no o in cc);
    }
