-- Shifts and rotates: single ones, how many of them, and the flags after them.
use Rattle.std.specs.Prelude.{ℕ, zero, suc, ◌+◌, ◌-◌, ◌*◌, ◌/◌, ◌%◌, ◌^◌, Bool, not, ◌==◌, if◌then◌else◌}
use Rattle.m386_base.specs.declared.number.Flags.{Flags}
use Rattle.m386_base.specs.declared.number.Width.{Width}
use Rattle.m386_alu.specs.declared.shifts.ShiftOp.{ShiftOp}
use Rattle.m386_alu.specs.declared.shifts.ShiftOp.TheVariants.{Rol, Ror, Rcl, Rcr, Shl, Shr, Sar}
use Rattle.m386_base.specs.declared.flags.Flag.TheVariants.{Carry, Overflow}
use Rattle.m386_base.specs.Flags.{with_flag}
use Rattle.m386_alu.specs.Flags.{carry_of, with_result}
use Rattle.m386_alu.specs.Width.{bits, is_negative}

-- a change made n times over
unfoldable pub times : {A : Type 0} → ℕ → (A → A) → A → A
times zero change a = a
times (suc n) change a = change (times n change a)

-- the top bit of a number of n bits, 0 or 1
abbrev pub top_bit : ℕ → ℕ → ℕ
top_bit n a = a / 2 ^ (n - 1)

-- A single shift or rotate of a number of n bits that stands with CF: the number after it, and CF after it, which is the bit
-- moved out. The bit moved in is 0 for SHL and SHR, the top bit for SAR, the bit moved out for ROL and ROR, and CF for RCL
-- and RCR.
-- Source: Intel 80386 PRM 3.4.4
abbrev pub single_shift : ShiftOp → ℕ → ℕ × ℕ → ℕ × ℕ
single_shift Rol n p = (p.0 * 2 % 2 ^ n + top_bit n p.0, top_bit n p.0)
single_shift Ror n p = (p.0 / 2 + p.0 % 2 * 2 ^ (n - 1), p.0 % 2)
single_shift Rcl n p = (p.0 * 2 % 2 ^ n + p.1, top_bit n p.0)
single_shift Rcr n p = (p.0 / 2 + p.1 * 2 ^ (n - 1), p.0 % 2)
single_shift Shl n p = (p.0 * 2 % 2 ^ n, top_bit n p.0)
single_shift Shr n p = (p.0 / 2, p.0 % 2)
single_shift Sar n p = (p.0 / 2 + top_bit n p.0 * 2 ^ (n - 1), p.0 % 2)

-- A shift or rotate by a count is so many single ones.
-- Source: Intel 80386 PRM 3.4.4
abbrev pub shifted : ShiftOp → ℕ → ℕ → ℕ × ℕ → ℕ × ℕ
shifted op n count p = times count (single_shift op n) p

-- whether two numbers of n bits have two signs
abbrev pub signs_differ : ℕ → ℕ → ℕ → Bool
signs_differ n a b = if is_negative n a then not (is_negative n b) else is_negative n b

-- OF after a shift or rotate of a to b: after a single one it says that the sign changed, and after more it stays.
-- Source: Intel 80386 PRM 3.4.4, 17.2.2.11
-- Own choice: docs/DECISIONS.md, "Flags that the manual leaves undefined"
abbrev pub with_sign_change : ℕ → ℕ → ℕ → ℕ → Flags → Flags
with_sign_change n count a b f = if count == 1 then with_flag Overflow (signs_differ n a b) f else f

-- The flags after a shift or rotate that moved something: a shift sets SF, ZF and PF by its result, a rotate leaves them.
-- AF stays.
-- Source: Intel 80386 PRM 3.4.4.1, 3.4.4.3
-- Own choice: docs/DECISIONS.md, "Flags that the manual leaves undefined"
abbrev pub with_shifted : ShiftOp → Width → ℕ → Flags → Flags
with_shifted Rol w value f = f
with_shifted Ror w value f = f
with_shifted Rcl w value f = f
with_shifted Rcr w value f = f
with_shifted Shl w value f = with_result w value f
with_shifted Shr w value f = with_result w value f
with_shifted Sar w value f = with_result w value f

-- the number and the flags after a shift or rotate by a count of 1 to 31, of which it is known what it made of number and CF
abbrev pub after_shift : ShiftOp → Width → ℕ → ℕ → ℕ × ℕ → Flags → ℕ × Flags
after_shift op w a count p f =
    (p.0, with_shifted op w p.0 (with_flag Carry (p.1 == 1) (with_sign_change (bits w) count a p.0 f)))

-- A shift or rotate, and the flags after it. Of the count the low 5 bits count, and where these are 0 nothing changes.
-- Source: Intel 80386 PRM 3.4.4
unfoldable pub shift_of : ShiftOp → Width → ℕ → ℕ → Flags → ℕ × Flags
shift_of op w a count f =
    let n = count % 32 in
    if n == 0 then (a, f) else after_shift op w a n (shifted op (bits w) n (a, carry_of f)) f
