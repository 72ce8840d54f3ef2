-- Bits of a number, and the flags as bits of the flags register.
use Rattle.std.specs.Prelude.{ℕ, ◌+◌, ◌*◌, ◌/◌, ◌%◌, ◌^◌, Bool, ◌==◌, if◌then◌else◌}
use Rattle.m386_base.specs.declared.flags.Flag.{Flag}
use Rattle.m386_base.specs.declared.flags.Flag.TheVariants.{Carry, Parity, Adjust, Zero, Sign, Trap, Interrupt, Direction, Overflow, NestedTask}
use Rattle.m386_base.specs.declared.number.Flags.{Flags}

-- whether bit k of a number is 1
abbrev pub has_bit : ℕ → ℕ → Bool
has_bit n k = n / 2 ^ k % 2 == 1

-- a number with bit k put to a value: the bits above it, the bit, and the bits below it
unfoldable pub put_bit : ℕ → ℕ → Bool → ℕ
put_bit n k b = n / 2 ^ (k + 1) * 2 ^ (k + 1) + (if b then 2 ^ k else 0) + n % 2 ^ k

-- The place of a flag in the flags register.
-- Source: Intel 80386 PRM 2.3.4.1
abbrev pub place : Flag → ℕ
place Carry = 0
place Parity = 2
place Adjust = 4
place Zero = 6
place Sign = 7
place Trap = 8
place Interrupt = 9
place Direction = 10
place Overflow = 11
place NestedTask = 14

-- a flag is 1
abbrev pub has_flag : Flag → Flags → Bool
has_flag flag f = has_bit f.0 (place flag)

-- the flags register with one flag put to a value
unfoldable pub with_flag : Flag → Bool → Flags → Flags
with_flag flag b f = record { 0 = put_bit f.0 (place flag) b }
