-- Whole numbers by their sign and magnitude: products, quotients, and the numbers of n bits that stand for them.
use Rattle.std.proofs.Common.{arith, ◌≡◌, ℕ, zero, suc, ◌+◌, ◌-◌, ◌*◌, ◌/◌, ◌%◌, ◌^◌, ◌<◌, ◌≤◌, ◌∙◌, refl, ⊎_elim, ℤ, pos, negsuc, neg_ℤ, ◌*ℤ◌, ◌-ℤ◌, Bool, true, false, not, nat_lt, nat_le, bit_and, int_div, int_rem, if◌then◌else◌, Some, None}
use Rattle.std.proofs.Math.Bool.{beq}
use Rattle.std.proofs.Math.Nat.{mod-eq_of_lt}
use Rattle.std.proofs.lemmas.Bool.{cases_lt}
use Rattle.std.proofs.lemmas.Bool.Decides.{nat_tests}
use Rattle.std.proofs.lemmas.Int.{ints}
use Rattle.std.proofs.lemmas.Nat.{mod_below, pow_pos, pow-add, and_mask, mod-mul-add}
use Rattle.std.proofs.lemmas.Nat.Bits.{ones_shr}
use Rattle.m386_alu.specs.Division.{quotient_of}
use Rattle.m386_alu.specs.Signs.{modulo, magnitude_of, signed_by}
use Rattle.m386_alu.specs.Width.{signed, is_negative, is_signed_number}
use Rattle.m386_alu.proofs.Readings.{is_signed, is_too_low, is_too_high, reads_positive, reads_negative, sign_set, sign_clear, two_halves}

-- all bits are 1
pub ones_of : (n : ℕ) → n ≤ 64 → (2 ^ 64 - 1) / 2 ^ (64 - n) ≡ 2 ^ n - 1
ones_of n h =
    let e : 64 - (64 - n) ≡ n = omega arith in ones_shr 64 (64 - n) (omega arith) ∙ rw e refl

-- how the code tells the upper half
pub top_test : (n x : ℕ) → 0 < n → nat_lt ((2 ^ n - 1) / 2) x ≡ is_negative n x
top_test n x p =
    let two = two_halves n p in
    let h : (2 ^ n - 1) / 2 ≡ 2 ^ (n - 1) - 1 = omega arith in
    let q = pow_pos (n - 1) in
    rw h (grind (arith, nat_tests, q))

pub read_magnitude : (n a : ℕ) → 0 < n → a < 2 ^ n → signed n a ≡ signed_by (is_negative n a) (magnitude_of n a)
read_magnitude n a p h =
    ⊎_elim
    (λ low. rw (sign_clear n a low) (reads_positive n a low))
    (λ high.
    let r = reads_negative n a high in
    let e : pos a -ℤ pos (2 ^ n) ≡ neg_ℤ (pos (2 ^ n - a)) = omega (arith, ints) in
    rw (sign_set n a high) (r ∙ e))
    (cases_lt a (2 ^ (n - 1)))

-- a product by signs and magnitudes
pub mul_signs : (p q : Bool) (x y : ℕ) → signed_by p x *ℤ signed_by q y ≡ signed_by (not (beq p q)) (x * y)
mul_signs false false x y = refl
mul_signs false true x zero = let e : x * 0 ≡ 0 = omega arith in rw e refl
mul_signs false true x (suc y) = refl
mul_signs true false zero y = let e : 0 * y ≡ 0 = omega arith in rw e refl
mul_signs true false (suc x) y = refl
mul_signs true true zero zero = refl
mul_signs true true zero (suc y) = let e : 0 * suc y ≡ 0 = omega arith in rw e refl
mul_signs true true (suc x) zero = let e : suc x * 0 ≡ 0 = omega arith in rw e refl
mul_signs true true (suc x) (suc y) = refl

pub modulo_fits : (n : ℕ) (z : ℤ) → modulo n z < 2 ^ n
modulo_fits n (pos a) = mod_below a (2 ^ n) (pow_pos n)
modulo_fits n (negsuc a) = let p = pow_pos n in omega arith

-- a rest of a number just below a multiple
rest_below : (q m x : ℕ) → 0 < q → 0 < x → x ≤ m → (q * m - x) % m ≡ m - x
rest_below zero m x h k l = absurd (omega arith)
rest_below (suc r) m x h k l =
    let s : suc r * m ≡ r * m + m = grind arith in
    let e : r * m + m - x ≡ r * m + (m - x) = omega arith in
    rw (s, e) (mod-mul-add r m (m - x) (omega arith))

-- how the code negates
pub negated : (n m : ℕ) → n ≤ 64 → m < 2 ^ n → bit_and ((0 + (2 ^ 64 - m)) % 2 ^ 64) (2 ^ n - 1) ≡ modulo n (signed_by true m)
negated n zero l h = and_mask ((0 + (2 ^ 64 - 0)) % 2 ^ 64) n ∙ refl
negated n (suc y) l h =
    let c : (0 + (2 ^ 64 - suc y)) % 2 ^ 64 ≡ 2 ^ 64 - suc y = omega arith in
    let e : 64 - n + n ≡ 64 = omega arith in
    let p : 2 ^ 64 ≡ 2 ^ (64 - n) * 2 ^ n = rw e at (pow-add 2 (64 - n) n) in
    let r = rest_below (2 ^ (64 - n)) (2 ^ n) (suc y) (pow_pos (64 - n)) (omega arith) (omega arith) in
    let m : y % 2 ^ n ≡ y = mod-eq_of_lt (omega arith) in
    let t : (2 ^ 64 - suc y) % 2 ^ n ≡ 2 ^ n - suc y = rw p r in
    and_mask ((0 + (2 ^ 64 - suc y)) % 2 ^ 64) n ∙ rw (c, t, m) (omega arith)

-- a quotient rounded toward zero, and its remainder, by signs and magnitudes
pub div_signs : (p q : Bool) (x y : ℕ) → 0 < y → int_div (signed_by p x) (signed_by q y) ≡ signed_by (not (beq p q)) (x / y)
div_signs p q x zero h = absurd (omega arith)
div_signs false false x (suc y) h = refl
div_signs false true x (suc y) h = refl
div_signs true false zero (suc y) h = let e : 0 / suc y ≡ 0 = omega arith in rw e refl
div_signs true false (suc x) (suc y) h = refl
div_signs true true zero (suc y) h = let e : 0 / suc y ≡ 0 = omega arith in rw e refl
div_signs true true (suc x) (suc y) h = refl

pub rem_signs : (p q : Bool) (x y : ℕ) → 0 < y → int_rem (signed_by p x) (signed_by q y) ≡ signed_by p (x % y)
rem_signs p q x zero h = absurd (omega arith)
rem_signs false false x (suc y) h = refl
rem_signs false true x (suc y) h = refl
rem_signs true false zero (suc y) h = let e : 0 % suc y ≡ 0 = omega arith in rw e refl
rem_signs true false (suc x) (suc y) h = refl
rem_signs true true zero (suc y) h = let e : 0 % suc y ≡ 0 = omega arith in rw e refl
rem_signs true true (suc x) (suc y) h = refl

half_of : (n : ℕ) → 0 < n → (2 ^ n - 1) / 2 + 1 ≡ 2 ^ (n - 1)
half_of n p =
    let two = two_halves n p in
    let q = pow_pos (n - 1) in omega arith

-- whether a number so far below 0 is a signed number
pub below_fits : (n m : ℕ) → 0 < n → nat_le m ((2 ^ n - 1) / 2 + 1) ≡ is_signed_number n (signed_by true m)
below_fits n m p =
    let h = half_of n p in
    ⊎_elim
    (λ (out : 2 ^ (n - 1) < m). let s = is_too_low n (signed_by true m) (omega (arith, ints)) in rw (s, h) (grind (arith, nat_tests)))
    (λ (inside : m ≤ 2 ^ (n - 1)).
    let s = is_signed n (signed_by true m) (omega (arith, ints)) (omega (arith, ints)) in
    rw (s, h) (grind (arith, nat_tests)))
    (cases_lt (2 ^ (n - 1)) m)

-- whether a number so far above 0 is a signed number
pub above_fits : (n m : ℕ) → 0 < n → nat_le m ((2 ^ n - 1) / 2) ≡ is_signed_number n (signed_by false m)
above_fits n m p =
    let h = half_of n p in
    ⊎_elim
    (λ (inside : m < 2 ^ (n - 1)).
    let s = is_signed n (signed_by false m) (omega (arith, ints)) (omega (arith, ints)) in
    rw s (grind (arith, nat_tests)))
    (λ (out : 2 ^ (n - 1) ≤ m). let s = is_too_high n (signed_by false m) (omega (arith, ints)) in rw s (grind (arith, nat_tests)))
    (cases_lt m (2 ^ (n - 1)))

-- the magnitude of a signed number has n bits
pub signed_is_small : (n m : ℕ) (b : Bool) → 0 < n → is_signed_number n (signed_by b m) ≡ true → m < 2 ^ n
signed_is_small n m true p h =
    let two = two_halves n p in
    let e : nat_le m ((2 ^ n - 1) / 2 + 1) ≡ true = below_fits n m p ∙ h in
    let q = pow_pos (n - 1) in
    let l : m ≤ (2 ^ n - 1) / 2 + 1 = grind (arith, nat_tests, e) in omega arith
signed_is_small n m false p h =
    let two = two_halves n p in
    let e : nat_le m ((2 ^ n - 1) / 2) ≡ true = above_fits n m p ∙ h in
    let q = pow_pos (n - 1) in
    let l : m ≤ (2 ^ n - 1) / 2 = grind (arith, nat_tests, e) in omega arith

magnitude_positive : (n y : ℕ) → 0 < y → y < 2 ^ n → 0 < magnitude_of n y
magnitude_positive n y h k =
    ⊎_elim
    (λ low. rw (sign_clear n y low) h)
    (λ high. rw (sign_set n y high) (omega arith))
    (cases_lt y (2 ^ (n - 1)))

-- the sign of a quotient
abbrev pub quotient_sign : ℕ → ℕ → ℕ → Bool
quotient_sign n d y = not (beq (is_negative (2 * n) d) (is_negative n y))

-- a quotient of numbers read with a sign, by the magnitudes
pub quotient_by_signs : (n d y : ℕ) → 0 < n → 0 < y → y < 2 ^ n → d < 2 ^ (n + n)
    → quotient_of true n d y
    ≡ (let q = signed_by (quotient_sign n d y) (magnitude_of (n + n) d / magnitude_of n y) in
    if is_signed_number n q then Some (modulo n q, modulo n (signed_by (is_negative (2 * n) d) (magnitude_of (n + n) d % magnitude_of n y)))
    else None)
unfolding quotient_of
quotient_by_signs n d y p h k l =
    let two : 2 * n ≡ n + n = omega arith in
    let rd = read_magnitude (n + n) d (omega arith) l in
    let ry = read_magnitude n y p k in
    let m : 0 < magnitude_of n y = magnitude_positive n y h k in
    let s = div_signs (is_negative (n + n) d) (is_negative n y) (magnitude_of (n + n) d) (magnitude_of n y) m in
    let t = rem_signs (is_negative (n + n) d) (is_negative n y) (magnitude_of (n + n) d) (magnitude_of n y) m in
    rw (two, rd, ry, s, t) refl
