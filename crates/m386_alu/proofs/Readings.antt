-- Signed readings and the numbers that have one.
use Rattle.std.proofs.Common.{arith, ◌≡◌, ℕ, ◌+◌, ◌-◌, ◌*◌, ◌%◌, ◌^◌, ◌<◌, ◌≤◌, true, false, pos, neg_ℤ, ◌-ℤ◌, ◌≤ℤ◌, ◌<ℤ◌, ℤ, ap, ◌∙◌}
use Rattle.std.proofs.Math.Nat.{mod-eq-sub-mod, mod-eq_of_lt}
use Rattle.std.proofs.lemmas.Int.{ints}
use Rattle.std.proofs.lemmas.Nat.{pow-add}
use Rattle.std.proofs.lemmas.Bool.Decides.{nat_tests}
use Rattle.m386_alu.specs.Width.{signed, is_signed_number, is_negative}

pub is_signed : (n : ℕ) (z : ℤ) → neg_ℤ (pos (2 ^ (n - 1))) ≤ℤ z → z <ℤ pos (2 ^ (n - 1)) → is_signed_number n z ≡ true
unfolding is_signed_number
is_signed n z h k = grind (arith, ints)

pub is_too_low : (n : ℕ) (z : ℤ) → z <ℤ neg_ℤ (pos (2 ^ (n - 1))) → is_signed_number n z ≡ false
unfolding is_signed_number
is_too_low n z h = grind (arith, ints)

pub is_too_high : (n : ℕ) (z : ℤ) → pos (2 ^ (n - 1)) ≤ℤ z → is_signed_number n z ≡ false
unfolding is_signed_number
is_too_high n z h = grind (arith, ints)

pub reads_positive : (n a : ℕ) → a < 2 ^ (n - 1) → signed n a ≡ pos a
unfolding signed
reads_positive n a h = grind (arith, nat_tests)

pub reads_negative : (n a : ℕ) → 2 ^ (n - 1) ≤ a → signed n a ≡ pos a -ℤ pos (2 ^ n)
unfolding signed
reads_negative n a h = grind (arith, nat_tests)

pub sign_set : (n a : ℕ) → 2 ^ (n - 1) ≤ a → is_negative n a ≡ true
sign_set n a h = grind (arith, nat_tests)

pub sign_clear : (n a : ℕ) → a < 2 ^ (n - 1) → is_negative n a ≡ false
sign_clear n a h = grind (arith, nat_tests)

-- the upper half begins at half of all numbers
pub two_halves : (n : ℕ) → 0 < n → 2 ^ n ≡ 2 * 2 ^ (n - 1)
two_halves n h =
    let e : n ≡ 1 + (n - 1) = omega arith in
    let p = pow-add 2 1 (n - 1) in
    ap (λ k. 2 ^ k) e ∙ p

-- less than twice a modulus
pub mod_once : (x m : ℕ) → m ≤ x → x < 2 * m → x % m ≡ x - m
mod_once x m h k = mod-eq-sub-mod h ∙ mod-eq_of_lt (omega arith)

pub when_set : (n a : ℕ) → is_negative n a ≡ true → 2 ^ (n - 1) ≤ a
when_set n a h = grind (arith, nat_tests)

pub when_clear : (n a : ℕ) → is_negative n a ≡ false → a < 2 ^ (n - 1)
when_clear n a h = grind (arith, nat_tests)
