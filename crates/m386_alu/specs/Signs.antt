-- Numbers of n bits and the whole numbers that they stand for.
use Rattle.std.specs.Prelude.{ℕ, ◌-◌, ◌%◌, ◌^◌, ℤ, pos, negsuc, neg_ℤ, Bool, if◌then◌else◌}
use Rattle.m386_alu.specs.Width.{is_negative}

-- The number of n bits that stands for a whole number: its rest modulo 2^n.
-- Source: Intel 80386 PRM 2.2
abbrev pub modulo : ℕ → ℤ → ℕ
modulo n (pos a) = a % 2 ^ n
modulo n (negsuc a) = 2 ^ n - 1 - a % 2 ^ n

-- how far the signed reading of a number of n bits is from 0
abbrev pub magnitude_of : ℕ → ℕ → ℕ
magnitude_of n a = if is_negative n a then 2 ^ n - a else a

-- the whole number that is so far from 0, below it or above
abbrev pub signed_by : Bool → ℕ → ℤ
signed_by negative m = if negative then neg_ℤ (pos m) else pos m
