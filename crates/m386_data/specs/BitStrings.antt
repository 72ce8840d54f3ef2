-- Tests of bits in registers and in memory.
use Rattle.std.specs.Prelude.{ℕ, ◌+◌, ◌-◌, ◌*◌, ◌/◌, ◌%◌, ◌^◌, if◌then◌else◌, Option, Some, None}
use Rattle.m386_base.specs.declared.number.Width.{Width}
use Rattle.m386_base.specs.Exceptions.{undefined_opcode_of}
use Rattle.m386_base.specs.Phrase.{Phrase, Done, Faults, ◌>>=◌}
use Rattle.m386_opmap.specs.declared.op.Addr.{Addr}
use Rattle.m386_state.specs.declared.proc.Proc.{Proc}
use Rattle.m386_alu.specs.Width.{bits, is_negative}
use Rattle.m386_alu.specs.declared.bit_tests.BitOp.{BitOp}
use Rattle.m386_alu.specs.declared.bit_tests.BitOp.TheVariants.{Test, Set, Reset, Complement}
use Rattle.m386_access.specs.Address.{segment_number, offset_of}
use Rattle.m386_access.specs.After.{len_of, register_at, with_flags}
use Rattle.m386_access.specs.Modify.{inspect_phrase}
use Rattle.m386_access.specs.Operands.{value_phrase, on_two}
use Rattle.m386_access.specs.declared.operands.Manner.{Manner}
use Rattle.m386_access.specs.declared.operands.Place.{Place}
use Rattle.m386_access.specs.declared.operands.Place.TheVariants.{Register, Number, Memory, Other}
use Rattle.m386_access.specs.declared.operands.Operands.{Operands}
use Rattle.m386_opmap.specs.declared.name.Name.{Name}
use Rattle.m386_opmap.specs.declared.name.Name.TheVariants as names
use Rattle.m386_data.specs.Change.{changed}
use Rattle.m386_data.specs.Update.{change_memory_phrase, change_phrase}
use Rattle.m386_data.specs.declared.change.Change.TheVariants.{Bit}

-- What the operation of a name does, where it is one of this group.
-- Source: Intel 80386 PRM 17.2.2.11, BT, BTC, BTR, BTS
abbrev pub bit_op_of : Name → Option BitOp
bit_op_of names.Bt = Some Test
bit_op_of names.Bts = Some Set
bit_op_of names.Btr = Some Reset
bit_op_of names.Btc = Some Complement
bit_op_of _ = None

-- The offset of the unit of a width that holds bit k of a bit string, where k is read with a sign: as many units on from the
-- string's offset as k has whole widths, rounded down.
-- Source: Intel 80386 PRM 3.4.2
abbrev pub unit_offset : Width → ℕ → ℕ → ℕ
unit_offset w offset k =
    if is_negative (bits w) k then (offset + 2 ^ 32 - len_of w * ((2 ^ bits w - k + (bits w - 1)) / bits w)) % 2 ^ 32
    else (offset + len_of w * (k / bits w)) % 2 ^ 32

-- a bit of memory tested, with LOCK in one locked group
unfoldable pub inspect_bit_phrase : Manner → Proc → ℕ → ℕ → ℕ → Phrase Proc
inspect_bit_phrase m p seg offset k = do
  old ← inspect_phrase p seg offset (len_of m.width) m.lock
  Done (with_flags p (changed (Bit Test k) m.width old p.eflags).1)

-- a bit of memory tested, and changed but by BT
abbrev pub memory_bit_phrase : BitOp → Manner → Proc → ℕ → ℕ → ℕ → Phrase Proc
memory_bit_phrase Test m p seg offset k = inspect_bit_phrase m p seg offset k
memory_bit_phrase Set m p seg offset k = change_memory_phrase (Bit Set k) m p seg offset
memory_bit_phrase Reset m p seg offset k = change_memory_phrase (Bit Reset k) m p seg offset
memory_bit_phrase Complement m p seg offset k = change_memory_phrase (Bit Complement k) m p seg offset

-- a bit of a register
unfoldable pub register_bit_phrase : BitOp → Manner → Proc → ℕ → Place → Phrase Proc
register_bit_phrase op m p register second = do
  k ← value_phrase m.width p second
  change_phrase (Bit op k) m p (Register register)

-- A bit of memory, by a register or a number. Only a register reaches beyond the unit of its width.
-- Source: Intel 80386 PRM 3.4.2
abbrev pub bit_string_phrase : BitOp → Manner → Proc → Addr → Place → Phrase Proc
bit_string_phrase op m p a (Register register) =
    memory_bit_phrase op m p (segment_number a.seg a.base) (unit_offset m.width (offset_of p a) (register_at m.width p register)) (register_at m.width p register)
bit_string_phrase op m p a (Number number) = memory_bit_phrase op m p (segment_number a.seg a.base) (offset_of p a) number
bit_string_phrase op m p a (Memory b) = Faults undefined_opcode_of
bit_string_phrase op m p a Other = Faults undefined_opcode_of

-- a bit of an operand
abbrev pub bit_of_phrase : BitOp → Manner → Proc → Place → Place → Phrase Proc
bit_of_phrase op m p (Register register) second = register_bit_phrase op m p register second
bit_of_phrase op m p (Memory a) second = bit_string_phrase op m p a second
bit_of_phrase op m p (Number number) second = Faults undefined_opcode_of
bit_of_phrase op m p Other second = Faults undefined_opcode_of

-- BT, BTS, BTR or BTC.
-- Source: Intel 80386 PRM 17.2.2.11, BT, BTC, BTR, BTS
unfoldable pub bit_test_phrase : BitOp → Manner → Operands → Proc → Phrase Proc
bit_test_phrase op m operands p = on_two operands (bit_of_phrase op m p)
