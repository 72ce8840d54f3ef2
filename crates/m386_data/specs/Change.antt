-- What an operation makes of one operand and of the flags.
use Rattle.std.specs.Prelude.{ℕ, ◌-◌, ◌%◌, ◌^◌}
use Rattle.m386_base.specs.declared.flags.Flag.TheVariants.{Carry}
use Rattle.m386_base.specs.declared.number.Flags.{Flags}
use Rattle.m386_base.specs.declared.number.Width.{Width}
use Rattle.m386_base.specs.declared.number.Width.TheVariants.{W8}
use Rattle.m386_base.specs.Flags.{has_flag, with_flag}
use Rattle.m386_alu.specs.Arithmetic.{alu_of}
use Rattle.m386_alu.specs.BitTests.{bit_test_of}
use Rattle.m386_alu.specs.DoubleShifts.{double_shift_of}
use Rattle.m386_alu.specs.Shifts.{shift_of}
use Rattle.m386_alu.specs.Width.{bits}
use Rattle.m386_alu.specs.declared.arithmetic.AluOp.TheVariants as ops
use Rattle.m386_data.specs.declared.change.Change.{Change}
use Rattle.m386_data.specs.declared.change.Change.TheVariants.{Arithmetic, Increment, Decrement, Invert, Negate, Shift, DoubleShift, Bit}

-- so many low bits of a number
abbrev pub low_of : Width → ℕ → ℕ
low_of w n = n % 2 ^ bits w

-- a result and its flags, but with CF as it was
abbrev pub with_old_carry : Flags → ℕ × Flags → ℕ × Flags
with_old_carry f found = (found.0, with_flag Carry (has_flag Carry f) found.1)

-- An operand after a change, and the flags after it. INC and DEC leave CF; NOT leaves all flags; NEG is a difference from 0.
-- Source: Intel 80386 PRM 3.2.1, 3.2.2, 3.4.1, 3.4.2, 3.4.4
unfoldable pub changed : Change → Width → ℕ → Flags → ℕ × Flags
changed (Arithmetic op b) w a f = alu_of op w (low_of w a) (low_of w b) f
changed Increment w a f = with_old_carry f (alu_of ops.Add w (low_of w a) 1 f)
changed Decrement w a f = with_old_carry f (alu_of ops.Sub w (low_of w a) 1 f)
changed Invert w a f = (2 ^ bits w - 1 - low_of w a, f)
changed Negate w a f = alu_of ops.Sub w 0 (low_of w a) f
changed (Shift op count) w a f = shift_of op w (low_of w a) (low_of W8 count) f
changed (DoubleShift left b count) w a f = double_shift_of left w (low_of w a) (low_of w b) (low_of W8 count) f
changed (Bit op k) w a f = bit_test_of op (low_of w a) (k % bits w) f
