-- Products and quotients.
use Rattle.std.specs.Prelude.{ℕ, Bool, true, false, Option, Some, None}
use Rattle.m386_base.specs.declared.exception.Exception.TheVariants.{DivideError}
use Rattle.m386_base.specs.declared.number.Width.{Width}
use Rattle.m386_base.specs.declared.number.Width.TheVariants.{W8, W16, W32}
use Rattle.m386_base.specs.Exceptions.{fault_of, undefined_opcode_of}
use Rattle.m386_base.specs.Phrase.{Phrase, Done, Faults, ◌>>=◌}
use Rattle.m386_state.specs.declared.proc.Proc.{Proc}
use Rattle.m386_alu.specs.Division.{div_of}
use Rattle.m386_alu.specs.Products.{mul_of}
use Rattle.m386_access.specs.After.{register_at, with_flags, with_register_at}
use Rattle.m386_access.specs.Operands.{value_phrase, on_one, on_register}
use Rattle.m386_access.specs.Registers.{eax, edx, ah}
use Rattle.m386_access.specs.declared.operands.Manner.{Manner}
use Rattle.m386_access.specs.declared.operands.Place.{Place}
use Rattle.m386_access.specs.declared.operands.Place.TheVariants.{Register}
use Rattle.m386_access.specs.declared.operands.Operands.{Operands}
use Rattle.m386_access.specs.declared.operands.Operands.TheVariants.{Absent, One, Two, Three, Others}
use Rattle.m386_opmap.specs.declared.name.Name.{Name}
use Rattle.m386_opmap.specs.declared.name.Name.TheVariants as names
use Rattle.m386_data.specs.declared.products.Products.{Products}
use Rattle.m386_data.specs.declared.products.Products.TheVariants as products
use Rattle.m386_data.specs.Change.{low_of}

-- What the operation of a name does, where it is one of this group.
-- Source: Intel 80386 PRM 17.2.2.11, DIV, IDIV, IMUL, MUL
abbrev pub products_of : Name → Option Products
products_of names.Mul = Some (products.Multiply false)
products_of names.Imul = Some (products.Multiply true)
products_of names.Div = Some (products.Divide false)
products_of names.Idiv = Some (products.Divide true)
products_of _ = None

-- The register of the upper half of a product or dividend: AH, DX or EDX. That of the lower half is AL, AX or EAX.
-- Source: Intel 80386 PRM 3.2.3, 3.2.4
abbrev pub upper_register : Width → ℕ
upper_register W8 = ah
upper_register W16 = edx
upper_register W32 = edx

-- the two registers put to values
abbrev pub with_halves : Width → Proc → ℕ → ℕ → Proc
with_halves w p upper lower = with_register_at w (with_register_at w p eax lower) (upper_register w) upper

-- the accumulator times a number, in two registers
abbrev pub multiplied : Bool → Width → Proc → ℕ → Proc
multiplied signed w p b =
    let found = mul_of signed w (low_of w (register_at w p eax)) (low_of w b) p.eflags in
    with_halves w (with_flags p found.2) found.0 found.1

-- the lower half of a product in a register
abbrev pub with_product : Bool → Width → Proc → ℕ → ℕ → ℕ → Proc
with_product signed w p register a b =
    let found = mul_of signed w (low_of w a) (low_of w b) p.eflags in
    with_register_at w (with_flags p found.2) register found.1

-- the accumulator times an operand
unfoldable pub multiply_accumulator_phrase : Bool → Width → Proc → Place → Phrase Proc
multiply_accumulator_phrase signed w p operand = do
  b ← value_phrase w p operand
  Done (multiplied signed w p b)

-- the lower half of the product of two operands, in a register
unfoldable pub multiply_two_phrase : Bool → Width → Proc → ℕ → Place → Place → Phrase Proc
multiply_two_phrase signed w p register first second = do
  a ← value_phrase w p first
  b ← value_phrase w p second
  Done (with_product signed w p register a b)

-- MUL or IMUL, and the forms of IMUL with two and three operands.
-- Source: Intel 80386 PRM 17.2.2.11, IMUL, MUL
unfoldable pub multiply_phrase : Bool → Manner → Operands → Proc → Phrase Proc
multiply_phrase signed m (One first) p = multiply_accumulator_phrase signed m.width p first
multiply_phrase signed m (Two first second) p = on_register first (λ register. multiply_two_phrase signed m.width p register (Register register) second)
multiply_phrase signed m (Three first second third) p = on_register first (λ register. multiply_two_phrase signed m.width p register second third)
multiply_phrase signed m Absent p = Faults undefined_opcode_of
multiply_phrase signed m Others p = Faults undefined_opcode_of

-- the two registers divided by a number
abbrev pub quotient_by : Bool → Width → Proc → ℕ → Option (ℕ × ℕ)
quotient_by signed w p by = div_of signed w (low_of w (register_at w p (upper_register w))) (low_of w (register_at w p eax)) (low_of w by)

-- The quotient in the lower register and the remainder in the upper one, or interrupt 0 where there are none.
-- Source: Intel 80386 PRM 3.2.4, 9.8.1
abbrev pub divided_phrase : Width → Proc → Option (ℕ × ℕ) → Phrase Proc
divided_phrase w p (Some found) = Done (with_halves w p found.1 found.0)
divided_phrase w p None = Faults (fault_of DivideError)

-- DIV or IDIV of the two registers by an operand.
-- Source: Intel 80386 PRM 17.2.2.11, DIV, IDIV
unfoldable pub divide_phrase : Bool → Manner → Operands → Proc → Phrase Proc
divide_phrase signed m operands p = on_one operands (λ first. value_phrase m.width p first >>= (λ by. divided_phrase m.width p (quotient_by signed m.width p by)))

-- an operation of this group
abbrev pub products_phrase : Products → Manner → Operands → Proc → Phrase Proc
products_phrase (products.Multiply signed) m operands p = multiply_phrase signed m operands p
products_phrase (products.Divide signed) m operands p = divide_phrase signed m operands p
