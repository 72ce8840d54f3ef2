use Rattle.std.proofs.Common.{arith, ◌≡◌, ℕ, ◌+◌, ◌-◌, ◌*◌, ◌%◌, ◌^◌, ◌<◌, refl, eqb, nat_le, cond, Bool, true}
use Rattle.m386_base.proofs.Finite.{all_below, each_below}
use Rattle.m386_base.specs.Split.{ones_at}
use Rattle.m386_base.proofs.split.enables_of.Goals as goal

fits_at : ℕ → ℕ → Bool
fits_at at n = cond (nat_le (at + n) 4) (eqb ((1 * 2 ^ n % 256 - 1) * 2 ^ at % 256) (ones_at at n)) true

all_fit : (at n : ℕ) → at < 5 → n < 5 → fits_at at n ≡ true
unfolding all_below fits_at
all_fit at n h k = each_below 5 (fits_at at) (each_below 5 (λ a. all_below 5 (fits_at a)) refl at h) n k

pub returns : goal.returns
unfolding fits_at
returns c =
    let at = c.args.at in
    let n = c.args.count in
    let k : fits_at at n ≡ true = all_fit at n (omega arith) (omega arith) in
    let l : nat_le (at + n) 4 ≡ true = search (arith) in
    grind (arith, k, l)
