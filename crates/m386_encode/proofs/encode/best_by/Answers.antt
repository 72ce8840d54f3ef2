-- A row of another name is met too.
use Rattle.std.proofs.Common.{◌≡◌, ℕ, true, get_or}
use Rattle.m386_encode.specs.Shortest.{IsMet, no_row}
use Rattle.m386_encode.proofs.Below.{below_next}
use Rattle.m386_encode.proofs.encode.best_by.Goals as goal

pub loop-row-preserved-then-not-same_name : goal.loop-row-preserved-then-not-same_name
loop-row-preserved-then-not-same_name c =
    let P : ℕ → Type 0 = λ i. (get_or c.args.rows.now i no_row).name ≡ c.args.op.now.name → IsMet c.args.op.now c.loop-row.best (get_or c.args.rows.now i no_row) in
    record {
      sound = c.loop-row.invariant.sound;
      met = below_next P c.loop-row.row-index c.loop-row.invariant.met (λ n. let yes : c.same_name.result ≡ true = c.same_name.ensures.no n in cc);
    }
