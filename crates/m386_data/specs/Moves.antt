-- Moves and exchanges.
use Rattle.std.specs.Prelude.{ℕ, ◌+◌, ◌-◌, ◌%◌, ◌^◌, Bool, true, false, ◌&&◌, if◌then◌else◌, Option, Some, None}
use Rattle.m386_base.specs.declared.ask.Role.TheVariants as roles
use Rattle.m386_base.specs.declared.number.Width.{Width}
use Rattle.m386_base.specs.declared.number.Width.TheVariants.{W8, W16}
use Rattle.m386_base.specs.Exceptions.{undefined_opcode_of}
use Rattle.m386_base.specs.Phrase.{Phrase, Done, Faults, ◌>>=◌}
use Rattle.m386_state.specs.declared.proc.Proc.{Proc}
use Rattle.m386_opmap.specs.declared.op.Addr.{Addr}
use Rattle.m386_alu.specs.Width.{bits, is_negative}
use Rattle.m386_access.specs.Access.{read_phrase}
use Rattle.m386_access.specs.Address.{segment_number, offset_of}
use Rattle.m386_access.specs.After.{len_of, register_at, with_register_at}
use Rattle.m386_access.specs.Conditions.{meets, when, unless}
use Rattle.m386_access.specs.Modify.{modify_phrase}
use Rattle.m386_access.specs.Operands.{value_phrase, put_phrase, on_register, on_memory, on_one, on_two}
use Rattle.m386_access.specs.Registers.{eax}
use Rattle.m386_access.specs.declared.conditions.Condition.{Condition}
use Rattle.m386_access.specs.declared.operands.Manner.{Manner}
use Rattle.m386_access.specs.declared.operands.Place.{Place}
use Rattle.m386_access.specs.declared.operands.Place.TheVariants.{Register, Number, Memory, Other}
use Rattle.m386_access.specs.declared.operands.Operands.{Operands}
use Rattle.m386_opmap.specs.declared.name.Name.{Name}
use Rattle.m386_opmap.specs.declared.name.Name.TheVariants as names
use Rattle.m386_access.specs.declared.conditions.Relation.TheVariants as relations
use Rattle.m386_data.specs.declared.moves.Moves.{Moves}
use Rattle.m386_data.specs.declared.moves.Moves.TheVariants as moves
use Rattle.m386_data.specs.Change.{low_of}

-- What the operation of a name does, where it is one of this group.
-- Source: Intel 80386 PRM 17.2.2.11, LEA, MOV, MOVSX, MOVZX, SETcc, XCHG, XLAT
abbrev pub moves_of : Name → Option Moves
moves_of names.Mov = Some moves.Move
moves_of names.Movzx8 = Some (moves.Extend false W8)
moves_of names.Movzx16 = Some (moves.Extend false W16)
moves_of names.Movsx8 = Some (moves.Extend true W8)
moves_of names.Movsx16 = Some (moves.Extend true W16)
moves_of names.Xchg = Some moves.Exchange
moves_of names.Lea = Some moves.Address
moves_of names.Xlat = Some moves.Translate
moves_of names.Seto = Some (moves.Set (when relations.Overflow))
moves_of names.Setno = Some (moves.Set (unless relations.Overflow))
moves_of names.Setb = Some (moves.Set (when relations.Below))
moves_of names.Setae = Some (moves.Set (unless relations.Below))
moves_of names.Sete = Some (moves.Set (when relations.Equal))
moves_of names.Setne = Some (moves.Set (unless relations.Equal))
moves_of names.Setbe = Some (moves.Set (when relations.BelowOrEqual))
moves_of names.Seta = Some (moves.Set (unless relations.BelowOrEqual))
moves_of names.Sets = Some (moves.Set (when relations.Sign))
moves_of names.Setns = Some (moves.Set (unless relations.Sign))
moves_of names.Setp = Some (moves.Set (when relations.Parity))
moves_of names.Setnp = Some (moves.Set (unless relations.Parity))
moves_of names.Setl = Some (moves.Set (when relations.Less))
moves_of names.Setge = Some (moves.Set (unless relations.Less))
moves_of names.Setle = Some (moves.Set (when relations.LessOrEqual))
moves_of names.Setg = Some (moves.Set (unless relations.LessOrEqual))
moves_of _ = None

-- MOV.
-- Source: Intel 80386 PRM 17.2.2.11, MOV
unfoldable pub move_phrase : Manner → Operands → Proc → Phrase Proc
move_phrase m operands p = on_two operands (λ first second. value_phrase m.width p second >>= (λ value. put_phrase m.width p first value))

-- a number of a width as one of 32 bits, with zeros above it or copies of its sign
abbrev pub extended_of : Bool → Width → ℕ → ℕ
extended_of signed from n = if signed && is_negative (bits from) n then n + (2 ^ 32 - 2 ^ bits from) else n

-- MOVZX or MOVSX, from an operand of a width of its own.
-- Source: Intel 80386 PRM 17.2.2.11, MOVSX, MOVZX
unfoldable pub extend_phrase : Bool → Width → Manner → Operands → Proc → Phrase Proc
extend_phrase signed from m operands p =
    on_two operands (λ first second. value_phrase from p second >>= (λ value. put_phrase m.width p first (extended_of signed from (low_of from value))))

-- LEA.
-- Source: Intel 80386 PRM 17.2.2.11, LEA
unfoldable pub address_phrase : Manner → Operands → Proc → Phrase Proc
address_phrase m operands p = on_two operands (λ first second. on_memory second (λ a. put_phrase m.width p first (offset_of p a)))

-- memory and a register, in one locked group
unfoldable pub swap_phrase : Width → Proc → Addr → ℕ → Phrase Proc
swap_phrase w p a register = do
  old ← modify_phrase p (segment_number a.seg a.base) (offset_of p a) (len_of w) true (λ old. register_at w p register)
  Done (with_register_at w p register old)

-- two registers
abbrev pub registers_swapped : Width → Proc → ℕ → ℕ → Proc
registers_swapped w p a b = with_register_at w (with_register_at w p a (register_at w p b)) b (register_at w p a)

-- an operand and a register
abbrev pub exchange_with_phrase : Width → Proc → Place → ℕ → Phrase Proc
exchange_with_phrase w p (Memory a) register = swap_phrase w p a register
exchange_with_phrase w p (Register other) register = Done (registers_swapped w p other register)
exchange_with_phrase w p (Number number) register = Faults undefined_opcode_of
exchange_with_phrase w p Other register = Faults undefined_opcode_of

-- XCHG. With memory it is one locked group, with LOCK and without it.
-- Source: Intel 80386 PRM 17.2.2.11, XCHG
unfoldable pub exchange_phrase : Manner → Operands → Proc → Phrase Proc
exchange_phrase m operands p = on_two operands (λ first second. on_register second (λ register. exchange_with_phrase m.width p first register))

-- the byte of a table that AL is the number of
unfoldable pub table_byte_phrase : Proc → Addr → Phrase Proc
table_byte_phrase p a = do
  value ← read_phrase p roles.Operand (segment_number a.seg a.base) ((offset_of p a + register_at W8 p eax) % 2 ^ 32) 1
  Done (with_register_at W8 p eax value)

-- XLAT.
-- Source: Intel 80386 PRM 17.2.2.11, XLAT
unfoldable pub translate_phrase : Operands → Proc → Phrase Proc
translate_phrase operands p = on_one operands (λ first. on_memory first (table_byte_phrase p))

-- SETcc: a byte put to 1 where the flags meet the condition, else to 0.
-- Source: Intel 80386 PRM 17.2.2.11, SETcc
unfoldable pub set_phrase : Condition → Operands → Proc → Phrase Proc
set_phrase condition operands p = on_one operands (λ first. put_phrase W8 p first (if meets condition p.eflags then 1 else 0))

-- an operation of this group
abbrev pub moves_phrase : Moves → Manner → Operands → Proc → Phrase Proc
moves_phrase moves.Move m operands p = move_phrase m operands p
moves_phrase (moves.Extend signed from) m operands p = extend_phrase signed from m operands p
moves_phrase moves.Exchange m operands p = exchange_phrase m operands p
moves_phrase moves.Address m operands p = address_phrase m operands p
moves_phrase moves.Translate m operands p = translate_phrase operands p
moves_phrase (moves.Set condition) m operands p = set_phrase condition operands p
