-- One bit of a number, put to a value.
use Rattle.std.proofs.Common.{arith, ◌≡◌, ℕ, ◌+◌, ◌-◌, ◌*◌, ◌/◌, ◌%◌, ◌^◌, ◌<◌, true, false, bit_and, bit_or}
use Rattle.std.proofs.lemmas.Nat.{mod-pow-add, shr_split, and-not, and_comm, one_shl, pow_below}
use Rattle.std.proofs.lemmas.Nat.Bits.{and_pow}
use Rattle.std.specs.Int.Bits.{or_add_and}
use Rattle.m386_base.specs.Flags.{put_bit}

-- a number is what stands above a bit, the bit, and what stands below it
pub three_parts : (n k : ℕ) → n ≡ n / 2 ^ (k + 1) * 2 ^ (k + 1) + n / 2 ^ k % 2 * 2 ^ k + n % 2 ^ k
three_parts n k =
    let e : n % 2 ^ (1 + k) ≡ n / 2 ^ k % 2 ^ 1 * 2 ^ k + n % 2 ^ k = mod-pow-add n 1 k in
    let s : n / 2 ^ (k + 1) * 2 ^ (k + 1) + n % 2 ^ (k + 1) ≡ n = shr_split n (k + 1) in
    let c : 1 + k ≡ k + 1 = omega arith in
    let f : n % 2 ^ (k + 1) ≡ n / 2 ^ k % 2 ^ 1 * 2 ^ k + n % 2 ^ k = rw c at e in
    grind (arith, f, s)

pub set_bit : (n k : ℕ) → bit_or n (2 ^ k) ≡ put_bit n k true
unfolding put_bit
set_bit n k =
    let p = three_parts n k in
    let o = or_add_and n (2 ^ k) in
    let a = and_pow n k in
    grind (arith, p, o, a)

pub clear_bit : (n k : ℕ) → n < 2 ^ 32 → k < 32 → bit_and n (2 ^ 32 - 1 - 2 ^ k) ≡ put_bit n k false
unfolding put_bit
clear_bit n k h l =
    let p = three_parts n k in
    let b : 2 ^ k < 2 ^ 32 = pow_below k 32 l in
    let o = and-not 32 (2 ^ k) n b h in
    let a = and_pow n k in
    let c = and_comm n (2 ^ k) in
    let d = and_comm n (2 ^ 32 - 1 - 2 ^ k) in
    grind (arith, p, o, a, c, d)

-- the code's mask for a bit
pub mask_at : (k : ℕ) → k < 32 → 1 * 2 ^ k % 2 ^ 32 ≡ 2 ^ k
mask_at k h = one_shl k 32 h
