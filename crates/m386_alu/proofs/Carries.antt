-- What the flags of sums and differences say.
use Rattle.std.proofs.Common.{arith, ◌≡◌, ℕ, ◌+◌, ◌-◌, ◌*◌, ◌/◌, ◌%◌, ◌^◌, ◌<◌, ◌≤◌, true, false, pos, ◌+ℤ◌, ◌-ℤ◌, not, cond, nat_eq, nat_lt, nat_le, bit_and, bit_xor, Bool, sym, ◌∙◌, refl, ⊎_elim}
use Rattle.std.proofs.Math.Nat.{mod-eq_of_lt}
use Rattle.std.proofs.Math.Bool.{beq}
use Rattle.std.proofs.lemmas.Int.{ints}
use Rattle.std.proofs.lemmas.Bool.{cases_lt}
use Rattle.std.proofs.lemmas.Bool.Decides.{nat_tests}
use Rattle.std.proofs.lemmas.Nat.Bits.{and_pow, bit_at_xor}
use Rattle.std.proofs.lemmas.Nat.{pow_pos, field_of, and_mask}
use Rattle.std.specs.Int.{bit_at}
use Rattle.m386_base.specs.declared.number.Width.{Width}
use Rattle.m386_base.specs.declared.number.Width.TheVariants.{W8, W16, W32}
use Rattle.m386_alu.specs.Width.{bits, signed, is_signed_number, is_negative}
use Rattle.m386_alu.proofs.Readings.{is_signed, is_too_low, is_too_high, reads_positive, reads_negative, sign_set, sign_clear, two_halves, mod_once}

both_positive : (n a b c : ℕ) → 0 < n → a < 2 ^ (n - 1) → b < 2 ^ (n - 1) → c ≤ 1
    → not (is_signed_number n (signed n a +ℤ signed n b +ℤ pos c)) ≡ is_negative n ((a + b + c) % 2 ^ n)
both_positive n a b c h ha hb hc =
    let two = two_halves n h in
    let ra = reads_positive n a ha in
    let rb = reads_positive n b hb in
    let v : (a + b + c) % 2 ^ n ≡ a + b + c = mod-eq_of_lt (omega arith) in
    rw v
    (⊎_elim
    (λ low.
    let s = is_signed n (signed n a +ℤ signed n b +ℤ pos c) (omega (arith, ints)) (omega (arith, ints)) in
    let t = sign_clear n (a + b + c) low in
    rw (s, t) refl)
    (λ high.
    let s = is_too_high n (signed n a +ℤ signed n b +ℤ pos c) (omega (arith, ints)) in
    let t = sign_set n (a + b + c) high in
    rw (s, t) refl)
    (cases_lt (a + b + c) (2 ^ (n - 1))))

both_negative : (n a b c : ℕ) → 0 < n → 2 ^ (n - 1) ≤ a → 2 ^ (n - 1) ≤ b → c ≤ 1 → a < 2 ^ n → b < 2 ^ n
    → not (is_signed_number n (signed n a +ℤ signed n b +ℤ pos c)) ≡ not (is_negative n ((a + b + c) % 2 ^ n))
both_negative n a b c h ha hb hc fa fb =
    let two = two_halves n h in
    let ra = reads_negative n a ha in
    let rb = reads_negative n b hb in
    let v : (a + b + c) % 2 ^ n ≡ a + b + c - 2 ^ n = mod_once (a + b + c) (2 ^ n) (omega arith) (omega arith) in
    rw v
    (⊎_elim
    (λ low.
    let s = is_too_low n (signed n a +ℤ signed n b +ℤ pos c) (omega (arith, ints)) in
    let t = sign_clear n (a + b + c - 2 ^ n) low in
    rw (s, t) refl)
    (λ high.
    let s = is_signed n (signed n a +ℤ signed n b +ℤ pos c) (omega (arith, ints)) (omega (arith, ints)) in
    let t = sign_set n (a + b + c - 2 ^ n) high in
    rw (s, t) refl)
    (cases_lt (a + b + c - 2 ^ n) (2 ^ (n - 1))))

-- operands of two signs have a sum that fits
mixed : (n a b c : ℕ) → 0 < n → a < 2 ^ (n - 1) → 2 ^ (n - 1) ≤ b → c ≤ 1 → b < 2 ^ n
    → is_signed_number n (signed n a +ℤ signed n b +ℤ pos c) ≡ true
mixed n a b c h ha hb hc fb =
    let two = two_halves n h in
    let ra = reads_positive n a ha in
    let rb = reads_negative n b hb in
    is_signed n (signed n a +ℤ signed n b +ℤ pos c) (omega (arith, ints)) (omega (arith, ints))

mixed_turned : (n a b c : ℕ) → 0 < n → 2 ^ (n - 1) ≤ a → b < 2 ^ (n - 1) → c ≤ 1 → a < 2 ^ n
    → is_signed_number n (signed n a +ℤ signed n b +ℤ pos c) ≡ true
mixed_turned n a b c h ha hb hc fa =
    let two = two_halves n h in
    let ra = reads_negative n a ha in
    let rb = reads_positive n b hb in
    is_signed n (signed n a +ℤ signed n b +ℤ pos c) (omega (arith, ints)) (omega (arith, ints))

differs_from_false : (b : Bool) → not (beq b false) ≡ b
differs_from_false true = refl
differs_from_false false = refl

differs_from_true : (b : Bool) → not (beq b true) ≡ not b
differs_from_true true = refl
differs_from_true false = refl

-- a sum is no signed number where the operands have one sign and the result the other
pub sum_overflow : (n a b c : ℕ) → 0 < n → c ≤ 1 → a < 2 ^ n → b < 2 ^ n
    → cond (beq (is_negative n b) (is_negative n a)) (not (beq (is_negative n ((a + b + c) % 2 ^ n)) (is_negative n a))) false
    ≡ not (is_signed_number n (signed n a +ℤ signed n b +ℤ pos c))
sum_overflow n a b c h hc fa fb =
    let v = is_negative n ((a + b + c) % 2 ^ n) in
    ⊎_elim
    (λ la.
    ⊎_elim
    (λ lb.
    rw (sign_clear n a la, sign_clear n b lb) (differs_from_false v ∙ sym (both_positive n a b c h la lb hc)))
    (λ gb. rw (sign_clear n a la, sign_set n b gb, mixed n a b c h la gb hc fb) refl)
    (cases_lt b (2 ^ (n - 1))))
    (λ ga.
    ⊎_elim
    (λ lb. rw (sign_set n a ga, sign_clear n b lb, mixed_turned n a b c h ga lb hc fa) refl)
    (λ gb.
    rw (sign_set n a ga, sign_set n b gb) (differs_from_true v ∙ sym (both_negative n a b c h ga gb hc fa fb)))
    (cases_lt b (2 ^ (n - 1))))
    (cases_lt a (2 ^ (n - 1)))

-- every width has a bit
pub some_bits : (w : Width) → 0 < bits w
some_bits W8 = omega arith
some_bits W16 = omega arith
some_bits W32 = omega arith

-- operands of one sign have a difference that fits
both_positive_less : (n a b c : ℕ) → 0 < n → a < 2 ^ (n - 1) → b < 2 ^ (n - 1) → c ≤ 1
    → is_signed_number n (signed n a -ℤ signed n b -ℤ pos c) ≡ true
both_positive_less n a b c h ha hb hc =
    let two = two_halves n h in
    let ra = reads_positive n a ha in
    let rb = reads_positive n b hb in
    is_signed n (signed n a -ℤ signed n b -ℤ pos c) (omega (arith, ints)) (omega (arith, ints))

both_negative_less : (n a b c : ℕ) → 0 < n → 2 ^ (n - 1) ≤ a → 2 ^ (n - 1) ≤ b → c ≤ 1 → a < 2 ^ n → b < 2 ^ n
    → is_signed_number n (signed n a -ℤ signed n b -ℤ pos c) ≡ true
both_negative_less n a b c h ha hb hc fa fb =
    let two = two_halves n h in
    let ra = reads_negative n a ha in
    let rb = reads_negative n b hb in
    is_signed n (signed n a -ℤ signed n b -ℤ pos c) (omega (arith, ints)) (omega (arith, ints))

positive_less : (n a b c : ℕ) → 0 < n → a < 2 ^ (n - 1) → 2 ^ (n - 1) ≤ b → c ≤ 1 → b < 2 ^ n
    → not (is_signed_number n (signed n a -ℤ signed n b -ℤ pos c)) ≡ is_negative n ((a + 2 ^ n - (b + c)) % 2 ^ n)
positive_less n a b c h ha hb hc fb =
    let two = two_halves n h in
    let ra = reads_positive n a ha in
    let rb = reads_negative n b hb in
    let v : (a + 2 ^ n - (b + c)) % 2 ^ n ≡ a + 2 ^ n - (b + c) = mod-eq_of_lt (omega arith) in
    rw v
    (⊎_elim
    (λ low.
    let s = is_signed n (signed n a -ℤ signed n b -ℤ pos c) (omega (arith, ints)) (omega (arith, ints)) in
    let t = sign_clear n (a + 2 ^ n - (b + c)) low in
    rw (s, t) refl)
    (λ high.
    let s = is_too_high n (signed n a -ℤ signed n b -ℤ pos c) (omega (arith, ints)) in
    let t = sign_set n (a + 2 ^ n - (b + c)) high in
    rw (s, t) refl)
    (cases_lt (a + 2 ^ n - (b + c)) (2 ^ (n - 1))))

negative_less : (n a b c : ℕ) → 0 < n → 2 ^ (n - 1) ≤ a → b < 2 ^ (n - 1) → c ≤ 1 → a < 2 ^ n
    → not (is_signed_number n (signed n a -ℤ signed n b -ℤ pos c)) ≡ not (is_negative n ((a + 2 ^ n - (b + c)) % 2 ^ n))
negative_less n a b c h ha hb hc fa =
    let two = two_halves n h in
    let ra = reads_negative n a ha in
    let rb = reads_positive n b hb in
    let m : (a + 2 ^ n - (b + c)) % 2 ^ n ≡ a + 2 ^ n - (b + c) - 2 ^ n =
    mod_once (a + 2 ^ n - (b + c)) (2 ^ n) (omega arith) (omega arith) in
    let v : (a + 2 ^ n - (b + c)) % 2 ^ n ≡ a - (b + c) = omega arith in
    rw v
    (⊎_elim
    (λ low.
    let s = is_too_low n (signed n a -ℤ signed n b -ℤ pos c) (omega (arith, ints)) in
    let t = sign_clear n (a - (b + c)) low in
    rw (s, t) refl)
    (λ high.
    let s = is_signed n (signed n a -ℤ signed n b -ℤ pos c) (omega (arith, ints)) (omega (arith, ints)) in
    let t = sign_set n (a - (b + c)) high in
    rw (s, t) refl)
    (cases_lt (a - (b + c)) (2 ^ (n - 1))))

-- a difference is no signed number where the operands have two signs and the result that of the second
pub difference_overflow : (n a b c : ℕ) → 0 < n → c ≤ 1 → a < 2 ^ n → b < 2 ^ n
    → cond (not (beq (is_negative n b) (is_negative n a))) (not (beq (is_negative n ((a + 2 ^ n - (b + c)) % 2 ^ n)) (is_negative n a))) false
    ≡ not (is_signed_number n (signed n a -ℤ signed n b -ℤ pos c))
difference_overflow n a b c h hc fa fb =
    let v = is_negative n ((a + 2 ^ n - (b + c)) % 2 ^ n) in
    ⊎_elim
    (λ la.
    ⊎_elim
    (λ lb. rw (sign_clear n a la, sign_clear n b lb, both_positive_less n a b c h la lb hc) refl)
    (λ gb.
    rw (sign_clear n a la, sign_set n b gb) (differs_from_false v ∙ sym (positive_less n a b c h la gb hc fb)))
    (cases_lt b (2 ^ (n - 1))))
    (λ ga.
    ⊎_elim
    (λ lb.
    rw (sign_set n a ga, sign_clear n b lb) (differs_from_true v ∙ sym (negative_less n a b c h ga lb hc fa)))
    (λ gb. rw (sign_set n a ga, sign_set n b gb, both_negative_less n a b c h ga gb hc fa fb) refl)
    (cases_lt b (2 ^ (n - 1))))
    (cases_lt a (2 ^ (n - 1)))

-- bit 4 of three numbers with an odd number of ones
pub odd_at_four : (a b v : ℕ) → nat_eq (bit_and (bit_xor (bit_xor a b) v) 16) 0 ≡ nat_eq ((a / 16 + b / 16 + v / 16) % 2) 0
odd_at_four a b v =
    let x = bit_xor (bit_xor a b) v in
    let p : bit_and x (2 ^ 4) ≡ bit_at x 4 * 2 ^ 4 = and_pow x 4 in
    let q = bit_at_xor (bit_xor a b) v 4 in
    let r = bit_at_xor a b 4 in
    let s : bit_and x 16 ≡ (a / 16 + b / 16 + v / 16) % 2 * 16 = omega (arith, p, q, r) in
    rw s (grind (arith, nat_tests))

-- a sum past the greatest number of n bits reaches 2 ^ n
pub reaches : (n s : ℕ) → nat_lt (2 ^ n - 1) s ≡ nat_le (2 ^ n) s
reaches n s = let p = pow_pos n in grind (arith, nat_tests, p)

-- the parity of a result's upper bits is that of the whole number that it was cut from
upper_parity : (w : Width) (t : ℕ) → t % 2 ^ bits w / 16 % 2 ≡ t / 16 % 2
upper_parity W8 t = let f = field_of t 4 4 in omega arith
upper_parity W16 t = let f = field_of t 12 4 in omega arith
upper_parity W32 t = let f = field_of t 28 4 in omega arith

-- where the carry out of the low four bits shows in the result
pub nibble_sum : (w : Width) (a b c : ℕ) → c ≤ 1
    → not (nat_eq ((a / 16 + b / 16 + (a + b + c) % 2 ^ bits w / 16) % 2) 0) ≡ nat_le 16 (a % 16 + b % 16 + c)
nibble_sum w a b c h =
    let p = upper_parity w (a + b + c) in
    ⊎_elim
    (λ low. let e : (a / 16 + b / 16 + (a + b + c) % 2 ^ bits w / 16) % 2 ≡ 0 = omega arith in rw e (grind (arith, nat_tests)))
    (λ high. let e : (a / 16 + b / 16 + (a + b + c) % 2 ^ bits w / 16) % 2 ≡ 1 = omega arith in rw e (grind (arith, nat_tests)))
    (cases_lt (a % 16 + b % 16 + c) 16)

-- all numbers of a width are an even multiple of 16
even_multiple : (w : Width) → 2 ^ bits w % 32 ≡ 0
even_multiple W8 = refl
even_multiple W16 = refl
even_multiple W32 = refl

-- where the borrow out of the low four bits shows in the result
pub nibble_difference : (w : Width) (a b c : ℕ) → c ≤ 1 → b < 2 ^ bits w
    → not (nat_eq ((a / 16 + b / 16 + (a + 2 ^ bits w - (b + c)) % 2 ^ bits w / 16) % 2) 0) ≡ nat_lt (a % 16) (b % 16 + c)
nibble_difference w a b c h k =
    let p = upper_parity w (a + 2 ^ bits w - (b + c)) in
    let q = even_multiple w in
    ⊎_elim
    (λ low. let e : (a / 16 + b / 16 + (a + 2 ^ bits w - (b + c)) % 2 ^ bits w / 16) % 2 ≡ 1 = omega arith in rw e (grind (arith, nat_tests)))
    (λ high. let e : (a / 16 + b / 16 + (a + 2 ^ bits w - (b + c)) % 2 ^ bits w / 16) % 2 ≡ 0 = omega arith in rw e (grind (arith, nat_tests)))
    (cases_lt (a % 16) (b % 16 + c))

cut_difference : (w : Width) (a b c : ℕ) → a < 2 ^ bits w → b < 2 ^ bits w → c ≤ 1
    → ((a + (2 ^ 32 - b)) % 2 ^ 32 + (2 ^ 32 - c)) % 2 ^ 32 % 2 ^ bits w ≡ (a + 2 ^ bits w - (b + c)) % 2 ^ bits w
cut_difference W8 a b c h k l = omega arith
cut_difference W16 a b c h k l = omega arith
cut_difference W32 a b c h k l = omega arith

-- a difference taken modulo 2 ^ 32, and then cut to its width
pub wrapped_difference : (w : Width) (a b c : ℕ) → a < 2 ^ bits w → b < 2 ^ bits w → c ≤ 1
    → bit_and (((a + (2 ^ 32 - b)) % 2 ^ 32 + (2 ^ 32 - c)) % 2 ^ 32) (2 ^ bits w - 1) ≡ (a + 2 ^ bits w - (b + c)) % 2 ^ bits w
wrapped_difference w a b c h k l =
    and_mask (((a + (2 ^ 32 - b)) % 2 ^ 32 + (2 ^ 32 - c)) % 2 ^ 32) (bits w) ∙ cut_difference w a b c h k l
