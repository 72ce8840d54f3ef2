-- Tests of one bit that may change it.
use Rattle.std.specs.Prelude.{ℕ, true, false, not}
use Rattle.m386_base.specs.declared.number.Flags.{Flags}
use Rattle.m386_alu.specs.declared.bit_tests.BitOp.{BitOp}
use Rattle.m386_alu.specs.declared.bit_tests.BitOp.TheVariants.{Test, Set, Reset, Complement}
use Rattle.m386_base.specs.declared.flags.Flag.TheVariants.{Carry}
use Rattle.m386_base.specs.Flags.{has_bit, put_bit, with_flag}

-- The number after a test of bit k: the same, or with that bit 1, 0 or the other value.
-- Source: Intel 80386 PRM 3.4.2
abbrev pub tested : BitOp → ℕ → ℕ → ℕ
tested Test a k = a
tested Set a k = put_bit a k true
tested Reset a k = put_bit a k false
tested Complement a k = put_bit a k (not (has_bit a k))

-- The number after a test of bit k, and the flags after it: CF is the bit as it was, and all other flags stay.
-- Source: Intel 80386 PRM 3.4.2
-- Own choice: docs/DECISIONS.md, "Flags that the manual leaves undefined"
abbrev pub bit_test_of : BitOp → ℕ → ℕ → Flags → ℕ × Flags
bit_test_of op a k f = (tested op a k, with_flag Carry (has_bit a k) f)
