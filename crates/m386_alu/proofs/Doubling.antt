-- Two numbers of a width as one of twice the width.
use Rattle.std.proofs.Common.{arith, ◌≡◌, ℕ, ◌+◌, ◌-◌, ◌*◌, ◌/◌, ◌%◌, ◌^◌, ◌<◌, ◌≤◌}
use Rattle.std.proofs.Math.Nat.{mul-div-mul_right}
use Rattle.std.proofs.lemmas.Nat.{pow-add, mul-add-lt, pow_pos}
use Rattle.m386_base.specs.declared.number.Width.{Width}
use Rattle.m386_base.specs.declared.number.Width.TheVariants.{W8, W16, W32}
use Rattle.m386_alu.specs.Width.{bits}

pub both_fit : (n a b : ℕ) → a < 2 ^ n → b < 2 ^ n → a * 2 ^ n + b < 2 ^ (n + n)
both_fit n a b h k =
    let l = mul-add-lt a (2 ^ n) b (2 ^ n) h k in rw (pow-add 2 n n) l

-- the upper half of what the code shifted to the left, of which the bits above 64 are lost
pub upper_half : (w : Width) (x : ℕ) → x % 2 ^ 64 / 2 ^ bits w % 2 ^ bits w ≡ x % 2 ^ (bits w + bits w) / 2 ^ bits w
upper_half W8 x = omega arith
upper_half W16 x = omega arith
upper_half W32 x = omega arith

-- the bit that left above
pub bit_above : (n d k : ℕ) → k ≤ n + n → d * 2 ^ k / 2 ^ (n + n) ≡ d / 2 ^ (2 * n - k)
bit_above n d k h =
    let e : n + n ≡ 2 * n - k + k = omega arith in
    let p = pow-add 2 (2 * n - k) k in
    rw (e, p) (mul-div-mul_right d (2 ^ (2 * n - k)) (pow_pos k))
