-- The eight operations of arithmetic and logic on two operands.
use Rattle.std.specs.Prelude.{ℕ, bit_and, bit_or, bit_xor}
use Rattle.m386_base.specs.declared.number.Flags.{Flags}
use Rattle.m386_base.specs.declared.number.Width.{Width}
use Rattle.m386_alu.specs.declared.arithmetic.AluOp.{AluOp}
use Rattle.m386_alu.specs.declared.arithmetic.AluOp.TheVariants.{Add, Or, Adc, Sbb, And, Sub, Xor, Cmp}
use Rattle.m386_alu.specs.Flags.{carry_of}
use Rattle.m386_alu.specs.Logic.{logic_of}
use Rattle.m386_alu.specs.Sums.{sum_of, difference_of}

-- The result of an operation on two operands, and the flags after it. CMP has the result of SUB, which nobody stores.
-- Source: Intel 80386 PRM 3.2.1, 3.2.2, 3.4.1
abbrev pub alu_of : AluOp → Width → ℕ → ℕ → Flags → ℕ × Flags
alu_of Add w a b f = sum_of w a b 0 f
alu_of Or w a b f = logic_of w (bit_or a b) f
alu_of Adc w a b f = sum_of w a b (carry_of f) f
alu_of Sbb w a b f = difference_of w a b (carry_of f) f
alu_of And w a b f = logic_of w (bit_and a b) f
alu_of Sub w a b f = difference_of w a b 0 f
alu_of Xor w a b f = logic_of w (bit_xor a b) f
alu_of Cmp w a b f = difference_of w a b 0 f
