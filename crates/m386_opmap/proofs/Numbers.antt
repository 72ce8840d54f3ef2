-- How large the number of some bytes is.
use Rattle.std.proofs.Common.{◌-◌, Bool, true, false, cond, ltb, ◌≡◌, ℕ, zero, suc, ◌+◌, ◌^◌, ◌<◌, ◌≤◌, arith, refl, add-zero, add-suc, subst}
use Rattle.std.proofs.Math.Nat.{pow-suc}
use Rattle.m386_base.specs.declared.number.Width.TheVariants.{W32}
use Rattle.m386_opmap.specs.Forms.{extended}

-- up to three bytes
pub small_power : (n : ℕ) → n ≤ 3 → 256 ^ n ≤ 16777216
small_power zero h = omega arith
small_power (suc zero) h = omega arith
small_power (suc (suc zero)) h = omega arith
small_power (suc (suc (suc zero))) h = omega arith
small_power (suc (suc (suc (suc n)))) h = absurd (omega arith)

-- a number of up to three bytes
pub three_bytes : (n r : ℕ) → n ≤ 3 → r < 256 ^ n → r < 16777216
three_bytes n r h hr = omega (arith, small_power n h)

more : (i k : ℕ) → 256 ^ i ≤ 256 ^ (i + k)
more i zero = rw (add-zero i) (omega arith)
more i (suc k) = rw (add-suc i k) (rw (pow-suc 256 (i + k)) (omega (arith, more i k)))

pub power_mono : (i j : ℕ) → i ≤ j → 256 ^ i ≤ 256 ^ j
power_mono i j h =
    let e : i + (j - i) ≡ j = omega arith in
    let P : ℕ → Type 0 = λ n. 256 ^ i ≤ 256 ^ n in subst P e (more i (j - i))

-- the number of at most so many bytes
pub front_bound : (i j r : ℕ) → i ≤ j → r < 256 ^ i → r < 256 ^ j
front_bound i j r h hr = omega (arith, hr, power_mono i j h)

whole : (b : Bool) (n : ℕ) → cond b n (n + (2 ^ 32 - 2 ^ 32)) ≡ n
whole true n = refl
whole false n = omega arith

-- a number of 32 bits has no upper bits to fill
pub extended_whole : (n : ℕ) → extended W32 W32 n ≡ n
unfolding extended
extended_whole n = whole (ltb n (2 ^ 31)) n
