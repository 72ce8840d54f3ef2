-- Single rotates made many times over, as turns of the number, alone or with the carry above it.
use Rattle.std.proofs.Common.{arith, ◌≡◌, ℕ, zero, suc, ◌+◌, ◌-◌, ◌*◌, ◌/◌, ◌%◌, ◌^◌, ◌<◌, sym, ◌∙◌, refl, ⊎_elim}
use Rattle.std.proofs.Math.Nat.{mod-eq_of_lt, div-eq_of_lt}
use Rattle.std.proofs.lemmas.Bool.{cases_lt}
use Rattle.std.proofs.lemmas.Nat.{mod_low, shr_high, pow_pos, div-mul-add, mod-mul-add}
use Rattle.m386_alu.specs.declared.shifts.ShiftOp.TheVariants.{Rol, Ror, Rcl, Rcr}
use Rattle.m386_alu.specs.Shifts.{times, shifted}
use Rattle.m386_alu.specs.Turns.{turn_left_once, turn_right_once, turned_left, turned_right}
use Rattle.m386_alu.proofs.Readings.{two_halves, mod_once}
use Rattle.m386_alu.proofs.Moves.{pair_from, top_is_one}
use Rattle.m386_alu.proofs.Turning.{left_all_fits, right_fits}

pub rol_value : (n k a c : ℕ) → (shifted Rol n k (a, c)).0 ≡ turned_left n k a
unfolding times turn_left_once
rol_value n zero a c = refl
rol_value n (suc k) a c = rw (rol_value n k a c) refl

-- the bit that a turn to the left moves out is the lowest after it
low_after : (n v : ℕ) → 0 < n → v < 2 ^ n → v / 2 ^ (n - 1) ≡ turn_left_once n v % 2
unfolding turn_left_once
low_after n v p h =
    let two = two_halves n p in
    ⊎_elim
    (λ low.
    let z : v / 2 ^ (n - 1) ≡ 0 = div-eq_of_lt low in
    let m : v * 2 % 2 ^ n ≡ v * 2 = mod-eq_of_lt (omega arith) in
    rw (z, m) (omega arith))
    (λ high.
    let o : v / 2 ^ (n - 1) ≡ 1 = top_is_one (2 ^ (n - 1)) v high (omega arith) in
    let m : v * 2 % 2 ^ n ≡ v * 2 - 2 ^ n = mod_once (v * 2) (2 ^ n) (omega arith) (omega arith) in
    rw (o, m) (omega arith))
    (cases_lt v (2 ^ (n - 1)))

rol_out : (n k a c : ℕ) → 0 < n → a < 2 ^ n → (shifted Rol n (suc k) (a, c)).1 ≡ turned_left n (suc k) a % 2
unfolding times
rol_out n k a c p h = rw (rol_value n k a c) (low_after n (turned_left n k a) p (left_all_fits n k a p h))

-- ROL by a count that is not 0
pub rol_after : (n k a c : ℕ) → 0 < k → 0 < n → a < 2 ^ n
    → ◌≡◌ {A = ℕ × ℕ} (shifted Rol n k (a, c)) (turned_left n k a, turned_left n k a % 2)
rol_after n zero a c z p h = absurd (omega arith)
rol_after n (suc k) a c z p h = pair_from _ _ _ (rol_value n (suc k) a c) (rol_out n k a c p h)

pub ror_value : (n k a c : ℕ) → (shifted Ror n k (a, c)).0 ≡ turned_right n k a
unfolding times turn_right_once
ror_value n zero a c = refl
ror_value n (suc k) a c = rw (ror_value n k a c) refl

-- the bit that a turn to the right moves out is the top one after it
top_after : (n v : ℕ) → 0 < n → v < 2 ^ n → v % 2 ≡ turn_right_once n v / 2 ^ (n - 1)
unfolding turn_right_once
top_after n v p h =
    let two = two_halves n p in
    ⊎_elim
    (λ low.
    let z : v % 2 ≡ 0 = omega arith in
    let d : (v / 2 + 0 * 2 ^ (n - 1)) / 2 ^ (n - 1) ≡ 0 = div-eq_of_lt (omega arith) in
    rw (z, d) refl)
    (λ high.
    let o : v % 2 ≡ 1 = omega arith in
    let d : (v / 2 + 1 * 2 ^ (n - 1)) / 2 ^ (n - 1) ≡ 1 = top_is_one (2 ^ (n - 1)) (v / 2 + 1 * 2 ^ (n - 1)) (omega arith) (omega arith) in
    rw (o, d) refl)
    (cases_lt (v % 2) 1)

ror_out : (n k a c : ℕ) → 0 < n → a < 2 ^ n → (shifted Ror n (suc k) (a, c)).1 ≡ turned_right n (suc k) a / 2 ^ (n - 1)
unfolding times
ror_out n k a c p h = rw (ror_value n k a c) (top_after n (turned_right n k a) p (right_fits n k a p h))

-- ROR by a count that is not 0
pub ror_after : (n k a c : ℕ) → 0 < k → 0 < n → a < 2 ^ n
    → ◌≡◌ {A = ℕ × ℕ} (shifted Ror n k (a, c)) (turned_right n k a, turned_right n k a / 2 ^ (n - 1))
ror_after n zero a c z p h = absurd (omega arith)
ror_after n (suc k) a c z p h = pair_from _ _ _ (ror_value n (suc k) a c) (ror_out n k a c p h)

-- a number and a carry that together are the number j of one bit more
pub record AreJoined (n j : ℕ) (p : ℕ × ℕ) : Type 0 where
  pub number : p.0 < 2 ^ n
  pub carry : p.1 < 2
  pub joined : p.1 * 2 ^ n + p.0 ≡ j

-- a number and the carry above it, to the left: what leaves above comes in below
joined_left : (m v c : ℕ) → 0 < m → v < m → (c * m + v) * 2 % (2 * m) + (c * m + v) / m ≡ v * 2 + c
joined_left m v c p f =
    let d : (c * m + v) / m ≡ c = div-mul-add c m v f in
    let e : (c * m + v) * 2 ≡ c * (2 * m) + v * 2 = grind arith in
    let l : v * 2 < 2 * m = omega arith in
    let r : (c * (2 * m) + v * 2) % (2 * m) ≡ v * 2 = mod-mul-add c (2 * m) (v * 2) l in
    rw (d, e, r) refl

-- one rotate to the left through the carry, over plain numbers
left_through : (m h v c : ℕ) → m ≡ 2 * h → 0 < h → v < m → c < 2
    → (v * 2 % m + c < m) × (v / h < 2) × (v / h * m + (v * 2 % m + c) ≡ v * 2 + c)
left_through m h v c e p f l =
    ⊎_elim
    (λ low.
    let z : v / h ≡ 0 = div-eq_of_lt low in
    let r : v * 2 % m ≡ v * 2 = mod-eq_of_lt (omega arith) in
    rw (z, r) (omega arith, omega arith, omega arith))
    (λ high.
    let o : v / h ≡ 1 = top_is_one h v high (omega arith) in
    let r : v * 2 % m ≡ v * 2 - m = mod_once (v * 2) m (omega arith) (omega arith) in
    rw (o, r) (omega arith, omega arith, omega arith))
    (cases_lt v h)

-- one rotate to the right through the carry, over plain numbers
right_through : (m h v c : ℕ) → m ≡ 2 * h → 0 < h → v < m → c < 2
    → (v / 2 + c * h < m) × (v % 2 < 2) × (v % 2 * m + (v / 2 + c * h) ≡ (c * m + v) / 2 + (c * m + v) % 2 * m)
right_through m h v c e p f l =
    ⊎_elim
    (λ low.
    let z : c ≡ 0 = omega arith in
    let a : (0 * m + v) / 2 ≡ v / 2 = omega arith in
    let b : (0 * m + v) % 2 ≡ v % 2 = omega arith in
    rw (z, a, b) (omega arith, omega arith, omega arith))
    (λ high.
    let o : c ≡ 1 = omega arith in
    let a : (1 * m + v) / 2 ≡ h + v / 2 = omega arith in
    let b : (1 * m + v) % 2 ≡ v % 2 = omega arith in
    rw (o, a, b) (omega arith, omega arith, omega arith))
    (cases_lt c 1)

-- all numbers of one bit more
pub twice : (n : ℕ) → 2 ^ (n + 1) ≡ 2 * 2 ^ n
twice n =
    let e : n + 1 - 1 ≡ n = omega arith in rw e at (two_halves (n + 1) (omega arith))

-- RCL turns the number with the carry above it
pub rcl_joined : (n k a c : ℕ) → 0 < n → a < 2 ^ n → c < 2 → AreJoined n (turned_left (n + 1) k (c * 2 ^ n + a)) (shifted Rcl n k (a, c))
unfolding times turn_left_once
rcl_joined n zero a c p h l = record { number = h; carry = l; joined = refl }
rcl_joined n (suc k) a c p h l =
    let r = rcl_joined n k a c p h l in
    let q = shifted Rcl n k (a, c) in
    let t = left_through (2 ^ n) (2 ^ (n - 1)) q.0 q.1 (two_halves n p) (pow_pos (n - 1)) r.number r.carry in
    let e : n + 1 - 1 ≡ n = omega arith in
    let j = joined_left (2 ^ n) q.0 q.1 (pow_pos n) r.number in
    record { number = t.0; carry = t.1; joined = rw (← r.joined, twice n, e) (t.2 ∙ sym j) }

-- RCR turns the number with the carry above it
pub rcr_joined : (n k a c : ℕ) → 0 < n → a < 2 ^ n → c < 2 → AreJoined n (turned_right (n + 1) k (c * 2 ^ n + a)) (shifted Rcr n k (a, c))
unfolding times turn_right_once
rcr_joined n zero a c p h l = record { number = h; carry = l; joined = refl }
rcr_joined n (suc k) a c p h l =
    let r = rcr_joined n k a c p h l in
    let q = shifted Rcr n k (a, c) in
    let t = right_through (2 ^ n) (2 ^ (n - 1)) q.0 q.1 (two_halves n p) (pow_pos (n - 1)) r.number r.carry in
    let e : n + 1 - 1 ≡ n = omega arith in
    record { number = t.0; carry = t.1; joined = rw (← r.joined, e) t.2 }

-- the two parts of what is joined
parted : (n j : ℕ) (p : ℕ × ℕ) → AreJoined n j p → p ≡ (j % 2 ^ n, j / 2 ^ n)
parted n j p r =
    let m : (p.1 * 2 ^ n + p.0) % 2 ^ n ≡ p.0 = mod_low p.1 n p.0 r.number in
    let d : (p.1 * 2 ^ n + p.0) / 2 ^ n ≡ p.1 = shr_high p.1 n p.0 r.number in
    let e = r.joined in
    pair_from p _ _ (rw e at (sym m)) (rw e at (sym d))

pub rcl_after : (n k a c : ℕ) → 0 < n → a < 2 ^ n → c < 2
    → ◌≡◌ {A = ℕ × ℕ} (shifted Rcl n k (a, c)) (turned_left (n + 1) k (c * 2 ^ n + a) % 2 ^ n, turned_left (n + 1) k (c * 2 ^ n + a) / 2 ^ n)
rcl_after n k a c p h l = parted n _ (shifted Rcl n k (a, c)) (rcl_joined n k a c p h l)

pub rcr_after : (n k a c : ℕ) → 0 < n → a < 2 ^ n → c < 2
    → ◌≡◌ {A = ℕ × ℕ} (shifted Rcr n k (a, c)) (turned_right (n + 1) k (c * 2 ^ n + a) % 2 ^ n, turned_right (n + 1) k (c * 2 ^ n + a) / 2 ^ n)
rcr_after n k a c p h l = parted n _ (shifted Rcr n k (a, c)) (rcr_joined n k a c p h l)
