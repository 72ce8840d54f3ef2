-- What single shifts come to that are made many times over.
use Rattle.std.proofs.Common.{arith, ◌≡◌, ℕ, zero, suc, ◌+◌, ◌-◌, ◌*◌, ◌/◌, ◌%◌, ◌^◌, ◌<◌, ◌≤◌, sym, ◌∙◌, refl, ap}
use Rattle.std.proofs.Math.Nat.{mod-eq_of_lt, div-eq_of_lt, div-eq_of_lt-le, mul-div-mul_right, pow-suc}
use Rattle.std.proofs.lemmas.Nat.{mul-mod_first, field_of, shr-shr, shr_le}
use Rattle.m386_alu.specs.declared.shifts.ShiftOp.TheVariants.{Shl, Shr, Sar}
use Rattle.m386_alu.specs.Shifts.{times, shifted}
use Rattle.m386_alu.proofs.Readings.{two_halves}

-- one more factor of 2
pub one_more_shift : (a k : ℕ) → a * 2 ^ suc k ≡ a * 2 ^ k * 2
one_more_shift a k = ap (λ p. a * p) (pow-suc 2 k) ∙ omega arith

-- the top bit of a number that was cut to n bits is the bit that its double has above them
pub top_of : (n x : ℕ) → 0 < n → x % 2 ^ n / 2 ^ (n - 1) ≡ x * 2 / 2 ^ n % 2
top_of n x h =
    let two = two_halves n h in
    let e : 1 + (n - 1) ≡ n = omega arith in
    let f = rw e at (field_of x 1 (n - 1)) in
    let turned : 2 * 2 ^ (n - 1) ≡ 2 ^ (n - 1) * 2 = omega arith in
    let g : x * 2 / (2 ^ (n - 1) * 2) ≡ x / 2 ^ (n - 1) = mul-div-mul_right x (2 ^ (n - 1)) (omega arith) in
    f ∙ rw (two, turned, g) refl

pub shl_value : (n k a c : ℕ) → a < 2 ^ n → (shifted Shl n k (a, c)).0 ≡ a * 2 ^ k % 2 ^ n
unfolding times
shl_value n zero a c h = sym (mod-eq_of_lt h) ∙ ap (λ b. b % 2 ^ n) (omega arith)
shl_value n (suc k) a c h =
    rw (shl_value n k a c h, one_more_shift a k) (mul-mod_first (a * 2 ^ k) 2 (2 ^ n))

-- SHL by a count that is not 0
pub shl_after : (n k a c : ℕ) → 0 < k → 0 < n → a < 2 ^ n
    → ◌≡◌ {A = ℕ × ℕ} (shifted Shl n k (a, c)) (a * 2 ^ k % 2 ^ n, a * 2 ^ k / 2 ^ n % 2)
unfolding times
shl_after n zero a c z p h = absurd (omega arith)
shl_after n (suc k) a c z p h =
    let x = a * 2 ^ k in
    let e = mul-mod_first x 2 (2 ^ n) in
    let t = top_of n x p in
    rw (shl_value n k a c h, one_more_shift a k, e, t) refl

-- a pair by its parts
pub pair_from : (p : ℕ × ℕ) (a b : ℕ) → p.0 ≡ a → p.1 ≡ b → p ≡ (a, b)
pair_from p a b e f = rw (← e, ← f) refl

pub half_more : (a k : ℕ) → a / 2 ^ k / 2 ≡ a / 2 ^ suc k
half_more a k =
    let e : k + 1 ≡ suc k = omega arith in rw e at (shr-shr a k 1)

pub shr_value : (n k a c : ℕ) → (shifted Shr n k (a, c)).0 ≡ a / 2 ^ k
unfolding times
shr_value n zero a c = omega arith
shr_value n (suc k) a c = rw (shr_value n k a c) (half_more a k)

shr_out : (n k a c : ℕ) → (shifted Shr n (suc k) (a, c)).1 ≡ a / 2 ^ k % 2
unfolding times
shr_out n k a c = rw (shr_value n k a c) refl

-- SHR by a count that is not 0
pub shr_after : (n k a c : ℕ) → 0 < k → ◌≡◌ {A = ℕ × ℕ} (shifted Shr n k (a, c)) (a / 2 ^ k, a / 2 ^ (k - 1) % 2)
shr_after n zero a c h = absurd (omega arith)
shr_after n (suc k) a c h =
    let e : suc k - 1 ≡ k = omega arith in
    rw (e) (pair_from _ _ _ (shr_value n (suc k) a c) (shr_out n k a c))

-- SAR of a number whose sign is 0 is SHR
pub sar_low : (n k a c : ℕ) → a < 2 ^ (n - 1) → shifted Sar n k (a, c) ≡ shifted Shr n k (a, c)
unfolding times
sar_low n zero a c h = refl
sar_low n (suc k) a c h =
    let v = shr_value n k a c in
    let b : a / 2 ^ k < 2 ^ (n - 1) = omega (arith, shr_le a k) in
    let z : a / 2 ^ k / 2 ^ (n - 1) ≡ 0 = div-eq_of_lt b in
    let w : a / 2 ^ k / 2 + 0 * 2 ^ (n - 1) ≡ a / 2 ^ k / 2 = omega arith in
    rw (sar_low n k a c h, v, z, w) refl

-- a number in the upper half has a top bit of 1
pub top_is_one : (h v : ℕ) → h ≤ v → v < 2 * h → v / h ≡ 1
top_is_one h v l k = div-eq_of_lt-le h (omega arith) (omega arith)

-- the complement of half the complement is the number's half with its sign
halved : (m h q : ℕ) → m ≡ 2 * h → q < h → (m - 1 - q) / 2 + 1 * h ≡ m - 1 - q / 2
halved m h q e l = omega arith

-- SAR of a number whose sign is 1 shifts its complement
pub sar_high_value : (n k a c : ℕ) → 0 < n → 2 ^ (n - 1) ≤ a → a < 2 ^ n → (shifted Sar n k (a, c)).0 ≡ 2 ^ n - 1 - (2 ^ n - 1 - a) / 2 ^ k
unfolding times
sar_high_value n zero a c p h l = omega arith
sar_high_value n (suc k) a c p h l =
    let two = two_halves n p in
    let b = 2 ^ n - 1 - a in
    let q = b / 2 ^ k in
    let small : q < 2 ^ (n - 1) = omega (arith, shr_le b k) in
    let t : (2 ^ n - 1 - q) / 2 ^ (n - 1) ≡ 1 = top_is_one (2 ^ (n - 1)) (2 ^ n - 1 - q) (omega arith) (omega arith) in
    let s : (2 ^ n - 1 - q) / 2 + 1 * 2 ^ (n - 1) ≡ 2 ^ n - 1 - q / 2 = halved (2 ^ n) (2 ^ (n - 1)) q two small in
    let d : q / 2 ≡ b / 2 ^ suc k = half_more b k in
    rw (sar_high_value n k a c p h l, t, s, d) refl

sar_out : (n k a c : ℕ) → 0 < n → 2 ^ (n - 1) ≤ a → a < 2 ^ n → (shifted Sar n (suc k) (a, c)).1 ≡ 1 - (2 ^ n - 1 - a) / 2 ^ k % 2
unfolding times
sar_out n k a c p h l =
    let two = two_halves n p in
    let small : (2 ^ n - 1 - a) / 2 ^ k < 2 ^ (n - 1) = omega (arith, shr_le (2 ^ n - 1 - a) k) in
    rw (sar_high_value n k a c p h l) (omega arith)

pub sar_high : (n k a c : ℕ) → 0 < k → 0 < n → 2 ^ (n - 1) ≤ a → a < 2 ^ n
    → ◌≡◌ {A = ℕ × ℕ} (shifted Sar n k (a, c)) (2 ^ n - 1 - (2 ^ n - 1 - a) / 2 ^ k, 1 - (2 ^ n - 1 - a) / 2 ^ (k - 1) % 2)
sar_high n zero a c z p h l = absurd (omega arith)
sar_high n (suc k) a c z p h l =
    let e : suc k - 1 ≡ k = omega arith in
    rw e (pair_from _ _ _ (sar_high_value n (suc k) a c p h l) (sar_out n k a c p h l))
