-- The operands of an operation, by their forms.
use Rattle.std.specs.Prelude.{ℕ, Bool, true, false, ◌&&◌, List, [], ◌∷◌}
use Rattle.m386_base.specs.declared.number.Width.{Width}
use Rattle.m386_base.specs.Exceptions.{undefined_opcode_of}
use Rattle.m386_base.specs.Phrase.{Phrase, Done, Faults, ◌>>=◌}
use Rattle.m386_opmap.specs.declared.op.Addr.{Addr}
use Rattle.m386_opmap.specs.declared.op.Arg.{Arg}
use Rattle.m386_opmap.specs.declared.op.Arg.TheVariants as args
use Rattle.m386_opmap.specs.declared.op.Op.{Op}
use Rattle.m386_state.specs.declared.proc.Proc.{Proc}
use Rattle.m386_access.specs.Access.{read_at_phrase, write_at_phrase}
use Rattle.m386_access.specs.After.{len_of, register_at, with_register_at}
use Rattle.m386_access.specs.declared.operands.Manner.{Manner}
use Rattle.m386_access.specs.declared.operands.Place.{Place}
use Rattle.m386_access.specs.declared.operands.Place.TheVariants.{Register, Number, Memory, Other}
use Rattle.m386_access.specs.declared.operands.Operands.{Operands}
use Rattle.m386_access.specs.declared.operands.Operands.TheVariants.{Absent, One, Two, Three, Others}

-- how an operation takes its operands
abbrev pub manner_of : Op → Manner
manner_of op = record { width = op.width; lock = op.lock }

-- where an operand is
abbrev pub operand_of : Arg → Place
operand_of (args.Reg register) = Register register
operand_of (args.Imm number) = Number number
operand_of (args.Mem a) = Memory a
operand_of _ = Other

-- by how many there are
abbrev pub forms_of : List Arg → Operands
forms_of [] = Absent
forms_of (a ∷ []) = One (operand_of a)
forms_of (a ∷ b ∷ []) = Two (operand_of a) (operand_of b)
forms_of (a ∷ b ∷ c ∷ []) = Three (operand_of a) (operand_of b) (operand_of c)
forms_of _ = Others

-- an operand that is a general register, a number or memory
abbrev pub is_general : Place → Bool
is_general Other = false
is_general _ = true

-- each of them is
abbrev pub are_general : Operands → Bool
are_general Absent = true
are_general (One a) = is_general a
are_general (Two a b) = is_general a && is_general b
are_general (Three a b c) = is_general a && is_general b && is_general c
are_general Others = false

-- The operands of an operation, the destination first.
unfoldable pub operands_of : Op → Operands
operands_of op = forms_of op.args.items

-- what is done with a register
abbrev pub on_register : {A : Type 0} → Place → (ℕ → Phrase A) → Phrase A
on_register (Register register) f = f register
on_register _ f = Faults undefined_opcode_of

-- what is done with memory
abbrev pub on_memory : {A : Type 0} → Place → (Addr → Phrase A) → Phrase A
on_memory (Memory a) f = f a
on_memory _ f = Faults undefined_opcode_of

-- What is done with just one operand. Here and below, other operands are #UD.
-- Own choice: docs/DECISIONS.md, "Operations that aren't built"
abbrev pub on_one : {A : Type 0} → Operands → (Place → Phrase A) → Phrase A
on_one (One a) f = f a
on_one _ f = Faults undefined_opcode_of

-- with two
abbrev pub on_two : {A : Type 0} → Operands → (Place → Place → Phrase A) → Phrase A
on_two (Two a b) f = f a b
on_two _ f = Faults undefined_opcode_of

-- with three
abbrev pub on_three : {A : Type 0} → Operands → (Place → Place → Place → Phrase A) → Phrase A
on_three (Three a b c) f = f a b c
on_three _ f = Faults undefined_opcode_of

-- An operand's value, by its width.
-- Source: Intel 80386 PRM 2.5; #UD: docs/DECISIONS.md, "Operations that aren't built"
unfoldable pub value_phrase : Width → Proc → Place → Phrase ℕ
value_phrase w p (Register register) = Done (register_at w p register)
value_phrase w p (Number number) = Done number
value_phrase w p (Memory a) = read_at_phrase p a (len_of w)
value_phrase w p Other = Faults undefined_opcode_of

-- memory put to a value
unfoldable pub store_phrase : Width → Proc → Addr → ℕ → Phrase Proc
store_phrase w p a value = do
  _ ← write_at_phrase p a (len_of w) value
  Done p

-- The state with an operand put to a value, by its width.
-- Source: Intel 80386 PRM 2.5; #UD: docs/DECISIONS.md, "Operations that aren't built"
unfoldable pub put_phrase : Width → Proc → Place → ℕ → Phrase Proc
put_phrase w p (Register register) value = Done (with_register_at w p register value)
put_phrase w p (Memory a) value = store_phrase w p a value
put_phrase w p (Number number) value = Faults undefined_opcode_of
put_phrase w p Other value = Faults undefined_opcode_of
