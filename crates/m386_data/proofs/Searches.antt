-- What a search for a bit finds.
use Rattle.std.proofs.Common.{◌≡◌, ℕ, ◌+◌, ◌-◌, ◌^◌, ◌<◌, ◌≤◌, ◌==◌, suc, arith, ap, subst}
use Rattle.std.specs.Int.{w32}
use Rattle.std.specs.Int.Count.{count_leading_zeros}
use Rattle.std.proofs.lemmas.Nat.{leading_top}
use Rattle.std.proofs.lemmas.Nat.Bits.{bit_at-trailing_zeros}
use Rattle.m386_data.specs.Compare.{place_of_one, IsLowestOne, IsHighestOne}
use Rattle.m386_data.specs.declared.compare.Scan.TheVariants.{Forward, Reverse}

pub forward_finds : (n : ℕ) → 0 < n → n < 2 ^ 32 → IsLowestOne n (place_of_one Forward n)
forward_finds n some small =
    let found = bit_at-trailing_zeros w32 n some small in
    record { one = ap (λ b. b == 1) found.1; below = λ i l. ap (λ b. b == 1) (found.2 i l) }

pub reverse_finds : (n : ℕ) → 0 < n → n < 2 ^ 32 → IsHighestOne n (place_of_one Reverse n)
reverse_finds n some small =
    let found = leading_top 32 n some small in
    let sum : count_leading_zeros 32 n + suc found.0 ≡ 32 = found.1 in
    let place : found.0 ≡ 31 - count_leading_zeros 32 n = omega arith in
    let next : suc found.0 ≡ (31 - count_leading_zeros 32 n) + 1 = omega arith in
    record { one = subst (λ k. 2 ^ k ≤ n) place found.2; above = subst (λ k. n < 2 ^ k) next found.3 }
