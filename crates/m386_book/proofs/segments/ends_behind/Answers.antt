use Rattle.std.proofs.Common.{◌≡◌, ◌-◌, ◌<◌, ◌≤◌, ℕ, length, get_or, arith, ltb}
use Rattle.std.proofs.lemmas.Bool.{ltb-true, lt-ltb}
use Rattle.m386_book.proofs.Found.{ends_after}
use Rattle.m386_book.proofs.segments.ends_behind.Goals as goal

pub returns : goal.returns
returns c =
    let told = ends_after c.args.bases.now c.args.place c.count_below.result (rw c.saturating_sub.ensures at c.count_below.ensures.below) (rw c.saturating_sub.ensures at c.count_below.ensures.above) in
    (λ p. told.0 (ltb-true _ _ p), λ m. lt-ltb _ _ (told.1 m))
