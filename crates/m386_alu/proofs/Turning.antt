-- Numbers turned by many places at once.
use Rattle.std.proofs.Common.{arith, ◌≡◌, ℕ, zero, suc, ◌+◌, ◌-◌, ◌*◌, ◌/◌, ◌%◌, ◌^◌, ◌<◌, ◌≤◌, sym, ◌∙◌, refl, ap, ⊎_elim, bit_and, bit_or, subst}
use Rattle.std.proofs.Math.Nat.{mod-eq_of_lt, div-eq_of_lt, mul-mod_left, pow-le-pow_right}
use Rattle.std.proofs.lemmas.Bool.{cases_lt}
use Rattle.std.proofs.lemmas.Nat.{mod-pow-add, shl-shr, pow-add, pow_pos, shr_below, or_shifted, and_mask, one_shl, shl_whole, mod_below, div-add-mod'}
use Rattle.m386_alu.specs.Shifts.{times}
use Rattle.m386_alu.specs.Turns.{turn_left_once, turn_right_once, turned_left, turned_right}
use Rattle.m386_alu.proofs.Readings.{two_halves, mod_once}
use Rattle.m386_alu.proofs.Moves.{top_is_one, half_more}

-- one more place to the right, over plain numbers: r are the bits that left, q those that are there, b the next to leave
one_place : (r p k q b h : ℕ) → k * p ≡ h → q % 2 ≡ b
    → (r * (2 * p) + q) / 2 + (r * (2 * p) + q) % 2 * h ≡ (b * k + r) * p + q / 2
one_place r p k q b h e f =
    let s : r * (2 * p) ≡ 2 * (r * p) = grind arith in
    ⊎_elim
    (λ low.
    let z : b ≡ 0 = omega arith in
    rw (s, z) (grind arith))
    (λ high.
    let o : b ≡ 1 = omega arith in
    rw (s, o) (grind arith))
    (cases_lt b 1)

-- turned to the right by k places: the low k bits stand above the others
pub right_closed : (n k x : ℕ) → 0 < n → k ≤ n → turned_right n k x ≡ x % 2 ^ k * 2 ^ (n - k) + x / 2 ^ k
unfolding times turn_right_once
right_closed n zero x p h =
    let z : x % 2 ^ 0 ≡ 0 = omega arith in rw z (omega arith)
right_closed n (suc k) x p h =
    let e : n - k - 1 ≡ n - suc k = omega arith in
    let two : 2 ^ (n - k) ≡ 2 * 2 ^ (n - suc k) = rw e at (two_halves (n - k) (omega arith)) in
    let c : 1 + k ≡ suc k = omega arith in
    let m : x % 2 ^ suc k ≡ x / 2 ^ k % 2 ^ 1 * 2 ^ k + x % 2 ^ k = rw c at (mod-pow-add x 1 k) in
    let d : k + (n - suc k) ≡ n - 1 = omega arith in
    let w : 2 ^ k * 2 ^ (n - suc k) ≡ 2 ^ (n - 1) = sym (pow-add 2 k (n - suc k)) ∙ ap (λ j. 2 ^ j) d in
    let o = one_place (x % 2 ^ k) (2 ^ (n - suc k)) (2 ^ k) (x / 2 ^ k) (x / 2 ^ k % 2) (2 ^ (n - 1)) w refl in
    rw (right_closed n k x p (omega arith), two, m, ← half_more x k) o

-- to turn to the right and back
there_and_back : (n a : ℕ) → 0 < n → a < 2 ^ n → turn_left_once n (turn_right_once n a) ≡ a
unfolding turn_left_once turn_right_once
there_and_back n a p h =
    let two = two_halves n p in
    ⊎_elim
    (λ low.
    let z : a % 2 ≡ 0 = omega arith in
    let m : (a / 2 + 0 * 2 ^ (n - 1)) * 2 % 2 ^ n ≡ a = mod-eq_of_lt (omega arith) ∙ omega arith in
    let d : (a / 2 + 0 * 2 ^ (n - 1)) / 2 ^ (n - 1) ≡ 0 = div-eq_of_lt (omega arith) in
    rw (z, m, d) (omega arith))
    (λ high.
    let o : a % 2 ≡ 1 = omega arith in
    let m : (a / 2 + 1 * 2 ^ (n - 1)) * 2 % 2 ^ n ≡ a - 1 =
    mod_once ((a / 2 + 1 * 2 ^ (n - 1)) * 2) (2 ^ n) (omega arith) (omega arith) ∙ omega arith in
    let d : (a / 2 + 1 * 2 ^ (n - 1)) / 2 ^ (n - 1) ≡ 1 = top_is_one (2 ^ (n - 1)) (a / 2 + 1 * 2 ^ (n - 1)) (omega arith) (omega arith) in
    rw (o, m, d) (omega arith))
    (cases_lt (a % 2) 1)

right_once_fits : (n a : ℕ) → 0 < n → a < 2 ^ n → turn_right_once n a < 2 ^ n
unfolding turn_right_once
right_once_fits n a p h =
    let two = two_halves n p in
    ⊎_elim
    (λ low. let z : a % 2 ≡ 0 = omega arith in rw z (omega arith))
    (λ high. let o : a % 2 ≡ 1 = omega arith in rw o (omega arith))
    (cases_lt (a % 2) 1)

pub right_fits : (n k a : ℕ) → 0 < n → a < 2 ^ n → turned_right n k a < 2 ^ n
unfolding times
right_fits n zero a p h = h
right_fits n (suc k) a p h = right_once_fits n (turned_right n k a) p (right_fits n k a p h)

-- all the way round
pub right_round : (n x : ℕ) → 0 < n → x < 2 ^ n → turned_right n n x ≡ x
right_round n x p h =
    let m : x % 2 ^ n ≡ x = mod-eq_of_lt h in
    let d : x / 2 ^ n ≡ 0 = div-eq_of_lt h in
    let z : n - n ≡ 0 = omega arith in
    right_closed n n x p (omega arith) ∙ rw (m, d, z) (omega arith)

-- to turn to the left by k places is to turn to the right by the others
pub left_is_right : (n k x : ℕ) → 0 < n → k ≤ n → x < 2 ^ n → turned_left n k x ≡ turned_right n (n - k) x
unfolding times
left_is_right n zero x p h l =
    let z : n - 0 ≡ n = omega arith in rw z (sym (right_round n x p l))
left_is_right n (suc k) x p h l =
    let e : n - k ≡ suc (n - suc k) = omega arith in
    let b = there_and_back n (turned_right n (n - suc k) x) p (right_fits n (n - suc k) x p l) in
    rw (left_is_right n k x p (omega arith) l, e) b

pub left_round : (n x : ℕ) → 0 < n → x < 2 ^ n → turned_left n n x ≡ x
unfolding times
left_round n x p h =
    let z : n - n ≡ 0 = omega arith in
    left_is_right n n x p (omega arith) h ∙ rw z refl

-- what comes back after n changes is the same after the rest of any count
times_add : (j k : ℕ) (f : ℕ → ℕ) (x : ℕ) → times (j + k) f x ≡ times j f (times k f x)
unfolding times
times_add zero k f x = let e : 0 + k ≡ k = omega arith in rw e refl
times_add (suc j) k f x = let e : suc j + k ≡ suc (j + k) = omega arith in rw e (ap f (times_add j k f x))

times_round : (f : ℕ → ℕ) (n x q r : ℕ) → times n f x ≡ x → times (r + q * n) f x ≡ times r f x
times_round f n x zero r h = let e : r + 0 * n ≡ r = omega arith in rw e refl
times_round f n x (suc q) r h =
    let e : r + suc q * n ≡ r + q * n + n = grind arith in
    rw (e, times_add (r + q * n) n f x, h) (times_round f n x q r h)

pub times_rest : (f : ℕ → ℕ) (n x k : ℕ) → times n f x ≡ x → times (k % n) f x ≡ times k f x
times_rest f n x k h =
    let e : k % n + k / n * n ≡ k = omega (arith, div-add-mod' k n) in
    sym (times_round f n x (k / n) (k % n) h) ∙ rw e refl

-- the low bits of a number that was shifted to the left
pub cut_shift : (n p x : ℕ) → p ≤ n → x * 2 ^ p % 2 ^ n ≡ x % 2 ^ (n - p) * 2 ^ p
cut_shift n p x h =
    let e : n - p + p ≡ n = omega arith in
    let m = rw e at (mod-pow-add (x * 2 ^ p) (n - p) p) in
    let a = shl-shr x p in
    let z = mul-mod_left x (2 ^ p) in
    m ∙ rw (a, z) (omega arith)

grow : (n x : ℕ) → n ≤ 33 → x < 2 ^ n → x < 2 ^ 33
grow n x l f =
    let p : 2 ^ n ≤ 2 ^ 33 =
    let q : 0 < 2 = omega arith in
    pow-le-pow_right q l in
    omega arith

-- how the code turns to the left
pub left_code : (n x p : ℕ) → 0 < n → n ≤ 33 → p < n → p < 32 → x < 2 ^ n
    → bit_or (bit_and (x * 2 ^ p % 2 ^ 64) (1 * 2 ^ n % 2 ^ 64 - 1)) (x / 2 ^ (n - p)) ≡ turned_left n p x
left_code n x p z l h k f =
    let wide : x < 2 ^ 33 = grow n x l f in
    let whole : x * 2 ^ p % 2 ^ 64 ≡ x * 2 ^ p = shl_whole x 33 p 64 wide (omega arith) in
    let e : n - p + p ≡ n = omega arith in
    let c : p + (n - p) ≡ n = omega arith in
    let g : x < 2 ^ (p + (n - p)) = rw c f in
    let small : x / 2 ^ (n - p) < 2 ^ p = shr_below x p (n - p) g in
    let back : n - (n - p) ≡ p = omega arith in
    rw (whole, one_shl n 64 (omega arith), and_mask (x * 2 ^ p) n, cut_shift n p x (omega arith), or_shifted (x % 2 ^ (n - p)) p (x / 2 ^ (n - p)) small)
    (sym (left_is_right n p x z (omega arith) f ∙ right_closed n (n - p) x z (omega arith) ∙ rw back refl))

-- how the code turns to the right
pub right_code : (n x p : ℕ) → 0 < n → n ≤ 33 → p < n → x < 2 ^ n
    → bit_or (bit_and x (1 * 2 ^ p % 2 ^ 64 - 1) * 2 ^ (n - p) % 2 ^ 64) (x / 2 ^ p) ≡ turned_right n p x
right_code n x p z l h f =
    let c : n - p + p ≡ n = omega arith in
    let g : x < 2 ^ (n - p + p) = rw c f in
    let small : x / 2 ^ p < 2 ^ (n - p) = shr_below x (n - p) p g in
    let low : x % 2 ^ p < 2 ^ p = mod_below x (2 ^ p) (pow_pos p) in
    let whole : x % 2 ^ p * 2 ^ (n - p) % 2 ^ 64 ≡ x % 2 ^ p * 2 ^ (n - p) = shl_whole (x % 2 ^ p) p (n - p) 64 low (omega arith) in
    rw (one_shl p 64 (omega arith), and_mask x p, whole, or_shifted (x % 2 ^ p) (n - p) (x / 2 ^ p) small)
    (sym (right_closed n p x z (omega arith)))

pub left_fits : (n k x : ℕ) → 0 < n → k ≤ n → x < 2 ^ n → turned_left n k x < 2 ^ n
left_fits n k x p h l =
    let P : ℕ → Type 0 = λ y. y < 2 ^ n in
    subst P (sym (left_is_right n k x p h l)) (right_fits n (n - k) x p l)

left_once_fits : (n a : ℕ) → 0 < n → a < 2 ^ n → turn_left_once n a < 2 ^ n
unfolding turn_left_once
left_once_fits n a p h =
    let two = two_halves n p in
    ⊎_elim
    (λ low.
    let z : a / 2 ^ (n - 1) ≡ 0 = div-eq_of_lt low in
    let m : a * 2 % 2 ^ n ≡ a * 2 = mod-eq_of_lt (omega arith) in
    rw (z, m) (omega arith))
    (λ high.
    let o : a / 2 ^ (n - 1) ≡ 1 = top_is_one (2 ^ (n - 1)) a high (omega arith) in
    let m : a * 2 % 2 ^ n ≡ a * 2 - 2 ^ n = mod_once (a * 2) (2 ^ n) (omega arith) (omega arith) in
    rw (o, m) (omega arith))
    (cases_lt a (2 ^ (n - 1)))

pub left_all_fits : (n k a : ℕ) → 0 < n → a < 2 ^ n → turned_left n k a < 2 ^ n
unfolding times
left_all_fits n zero a p h = h
left_all_fits n (suc k) a p h = left_once_fits n (turned_left n k a) p (left_all_fits n k a p h)
