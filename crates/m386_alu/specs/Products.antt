-- Products of two operands.
use Rattle.std.specs.Prelude.{ℕ, ◌+◌, ◌-◌, ◌*◌, ◌/◌, ◌%◌, ◌^◌, ◌*ℤ◌, Bool, true, false, not, ◌==◌, if◌then◌else◌}
use Rattle.m386_base.specs.declared.number.Flags.{Flags}
use Rattle.m386_base.specs.declared.number.Width.{Width}
use Rattle.m386_base.specs.declared.flags.Flag.TheVariants.{Carry, Overflow}
use Rattle.m386_base.specs.Flags.{with_flag}
use Rattle.m386_alu.specs.Signs.{modulo}
use Rattle.m386_alu.specs.Width.{bits, is_negative, signed}

-- The product of two numbers of n bits as a number of twice as many, read without a sign (MUL) or with one (IMUL).
-- Source: Intel 80386 PRM 3.2.3
unfoldable pub product_of : Bool → ℕ → ℕ → ℕ → ℕ
product_of false n a b = a * b
product_of true n a b = modulo (n + n) (signed n a *ℤ signed n b)

-- the upper half of a product that is no longer than its lower half: zeros, or copies of the sign
abbrev pub extension : Bool → ℕ → ℕ → ℕ
extension false n low = 0
extension true n low = if is_negative n low then 2 ^ n - 1 else 0

-- The upper and lower half of a product, and the flags after it: CF and OF say that the upper half isn't the extension of
-- the lower. SF, ZF, AF and PF stay.
-- Source: Intel 80386 PRM 3.2.3
-- Own choice: docs/DECISIONS.md, "Flags that the manual leaves undefined"
abbrev pub halves_of : Bool → ℕ → ℕ → Flags → ℕ × ℕ × Flags
halves_of is_signed n p f =
    let longer = not (p / 2 ^ n == extension is_signed n (p % 2 ^ n)) in
    (p / 2 ^ n, p % 2 ^ n, with_flag Carry longer (with_flag Overflow longer f))

-- A product, in two halves, and the flags after it.
-- Source: Intel 80386 PRM 3.2.3
abbrev pub mul_of : Bool → Width → ℕ → ℕ → Flags → ℕ × ℕ × Flags
mul_of is_signed w a b f = halves_of is_signed (bits w) (product_of is_signed (bits w) a b) f
