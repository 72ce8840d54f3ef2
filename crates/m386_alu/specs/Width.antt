-- The numbers of a width, and how they read with a sign.
use Rattle.std.specs.Prelude.{ℕ, ◌-◌, ◌^◌, ℤ, pos, neg_ℤ, ◌-ℤ◌, Bool, ◌&&◌, nat_le, int_le, int_lt, if◌then◌else◌}
use Rattle.m386_base.specs.declared.number.Width.{Width}
use Rattle.m386_base.specs.declared.number.Width.TheVariants.{W8, W16, W32}

-- How many bits an operand of this width has. Its numbers are those below 2 to this power.
-- Source: Intel 80386 PRM 2.2
abbrev pub bits : Width → ℕ
bits W8 = 8
bits W16 = 16
bits W32 = 32

-- whether a number of n bits is in the upper half of them, which reads as negative
abbrev pub is_negative : ℕ → ℕ → Bool
is_negative n a = nat_le (2 ^ (n - 1)) a

-- A number of n bits read with a sign, in two's complement: the upper half reads as 2^n less.
-- Source: Intel 80386 PRM 2.2
unfoldable pub signed : ℕ → ℕ → ℤ
signed n a = if is_negative n a then pos a -ℤ pos (2 ^ n) else pos a

-- whether a whole number is the signed reading of some number of n bits
unfoldable pub is_signed_number : ℕ → ℤ → Bool
is_signed_number n z = int_le (neg_ℤ (pos (2 ^ (n - 1)))) z && int_lt z (pos (2 ^ (n - 1)))
