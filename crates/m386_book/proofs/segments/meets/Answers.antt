use Rattle.std.proofs.Common.{◌≡◌, ◌-◌, ◌<◌, ◌≤◌, ℕ, length, get_or, arith, ltb}
use Rattle.std.proofs.lemmas.Bool.{ltb-true, lt-ltb}
use Rattle.m386_book.proofs.Found.{meets_between}
use Rattle.m386_book.proofs.segments.meets.Goals as goal

pub returns : goal.returns
returns c =
    let told = meets_between c.args.bases.now c.args.low c.args.last c.count_below-ended.result c.count_upto.result c.count_upto.ensures.within
    (rw c.saturating_sub.ensures at c.count_below-ended.ensures.below) (rw c.saturating_sub.ensures at c.count_below-ended.ensures.above) c.count_upto.ensures.upto c.count_upto.ensures.above in
    (λ p. told.0 (ltb-true _ _ p), λ m. lt-ltb _ _ (told.1 m))
