-- Quotients and remainders.
use Rattle.std.specs.Prelude.{ℕ, ◌+◌, ◌*◌, ◌/◌, ◌%◌, ◌^◌, int_div, int_rem, Bool, true, false, nat_lt, ◌==◌, if◌then◌else◌, Option, Some, None}
use Rattle.m386_base.specs.declared.number.Width.{Width}
use Rattle.m386_alu.specs.Signs.{modulo}
use Rattle.m386_alu.specs.Width.{bits, signed, is_signed_number}

-- The quotient and the remainder of a number of twice n bits by one of n bits that isn't 0, read without a sign (DIV) or
-- with one (IDIV, whose quotient is rounded toward zero and whose remainder has the dividend's sign). There are none where
-- the quotient is no number of n bits. The least signed number is one (own choice).
-- Source: Intel 80386 PRM 3.2.4
-- Own choice: docs/DECISIONS.md, "The least quotient of IDIV"
unfoldable pub quotient_of : Bool → ℕ → ℕ → ℕ → Option (ℕ × ℕ)
quotient_of false n dividend by =
    if nat_lt (dividend / by) (2 ^ n) then Some (dividend / by, dividend % by) else None
quotient_of true n dividend by =
    let z = signed (n + n) dividend in
    let d = signed n by in
    if is_signed_number n (int_div z d) then Some (modulo n (int_div z d), modulo n (int_rem z d)) else None

-- The quotient and the remainder of the number of two halves by an operand: none where that is 0 or the quotient doesn't
-- fit.
-- Source: Intel 80386 PRM 3.2.4, 9.8.1
unfoldable pub div_of : Bool → Width → ℕ → ℕ → ℕ → Option (ℕ × ℕ)
div_of is_signed w high low by =
    if by == 0 then None else quotient_of is_signed (bits w) (high * 2 ^ bits w + low) by
