-- Operations that change one operand, which is read and written.
use Rattle.std.specs.Prelude.{ℕ, Bool, true, false, Option, Some, None}
use Rattle.m386_base.specs.declared.number.Flags.{Flags}
use Rattle.m386_base.specs.declared.number.Width.{Width}
use Rattle.m386_base.specs.declared.number.Width.TheVariants.{W8}
use Rattle.m386_base.specs.Exceptions.{undefined_opcode_of}
use Rattle.m386_base.specs.Phrase.{Phrase, Done, Faults, ◌>>=◌}
use Rattle.m386_alu.specs.declared.arithmetic.AluOp.{AluOp}
use Rattle.m386_alu.specs.declared.shifts.ShiftOp.{ShiftOp}
use Rattle.m386_state.specs.declared.proc.Proc.{Proc}
use Rattle.m386_access.specs.Address.{segment_number, offset_of}
use Rattle.m386_access.specs.After.{len_of, register_at, with_register_at, with_flags}
use Rattle.m386_access.specs.Modify.{modify_phrase}
use Rattle.m386_access.specs.Operands.{value_phrase, on_one, on_two, on_three}
use Rattle.m386_access.specs.declared.operands.Manner.{Manner}
use Rattle.m386_access.specs.declared.operands.Place.{Place}
use Rattle.m386_access.specs.declared.operands.Place.TheVariants.{Register, Number, Memory, Other}
use Rattle.m386_access.specs.declared.operands.Operands.{Operands}
use Rattle.m386_alu.specs.declared.arithmetic.AluOp.TheVariants as ops
use Rattle.m386_alu.specs.declared.shifts.ShiftOp.TheVariants as shifts
use Rattle.m386_opmap.specs.declared.name.Name.{Name}
use Rattle.m386_opmap.specs.declared.name.Name.TheVariants as names
use Rattle.m386_data.specs.declared.change.Change.TheVariants as changes
use Rattle.m386_data.specs.declared.update.Update.{Update}
use Rattle.m386_data.specs.declared.update.Update.TheVariants as updates
use Rattle.m386_data.specs.Change.{changed}
use Rattle.m386_data.specs.declared.change.Change.{Change}
use Rattle.m386_data.specs.declared.change.Change.TheVariants.{Arithmetic, Shift, DoubleShift}

-- What the operation of a name does, where it is one of this group.
-- Source: Intel 80386 PRM 17.2.2.11, ADC, ADD, AND, DEC, INC, NEG, NOT, OR, RCL/RCR/ROL/ROR, SAL/SAR/SHL/SHR, SBB, SHLD, SHRD, SUB, XOR
abbrev pub update_of : Name → Option Update
update_of names.Add = Some (updates.Arithmetic ops.Add)
update_of names.Or = Some (updates.Arithmetic ops.Or)
update_of names.Adc = Some (updates.Arithmetic ops.Adc)
update_of names.Sbb = Some (updates.Arithmetic ops.Sbb)
update_of names.And = Some (updates.Arithmetic ops.And)
update_of names.Sub = Some (updates.Arithmetic ops.Sub)
update_of names.Xor = Some (updates.Arithmetic ops.Xor)
update_of names.Inc = Some (updates.Single changes.Increment)
update_of names.Dec = Some (updates.Single changes.Decrement)
update_of names.Not = Some (updates.Single changes.Invert)
update_of names.Neg = Some (updates.Single changes.Negate)
update_of names.Rol = Some (updates.Shift shifts.Rol)
update_of names.Ror = Some (updates.Shift shifts.Ror)
update_of names.Rcl = Some (updates.Shift shifts.Rcl)
update_of names.Rcr = Some (updates.Shift shifts.Rcr)
update_of names.Shl = Some (updates.Shift shifts.Shl)
update_of names.Shr = Some (updates.Shift shifts.Shr)
update_of names.Sar = Some (updates.Shift shifts.Sar)
update_of names.Shld = Some (updates.DoubleShift true)
update_of names.Shrd = Some (updates.DoubleShift false)
update_of _ = None

-- memory changed, and the flags after it
unfoldable pub change_memory_phrase : Change → Manner → Proc → ℕ → ℕ → Phrase Proc
change_memory_phrase change m p seg offset = do
  old ← modify_phrase p seg offset (len_of m.width) m.lock (λ old. (changed change m.width old p.eflags).0)
  Done (with_flags p (changed change m.width old p.eflags).1)

-- a register put to a result, and the flags after it
abbrev pub put_found : Width → Proc → ℕ → ℕ × Flags → Proc
put_found w p register found = with_register_at w (with_flags p found.1) register found.0

-- An operand changed, and the flags after it.
-- Source: Intel 80386 PRM 3.2, 3.4; #UD: docs/DECISIONS.md, "Operations that aren't built"
unfoldable pub change_phrase : Change → Manner → Proc → Place → Phrase Proc
change_phrase change m p (Register register) = Done (put_found m.width p register (changed change m.width (register_at m.width p register) p.eflags))
change_phrase change m p (Memory a) = change_memory_phrase change m p (segment_number a.seg a.base) (offset_of p a)
change_phrase change m p (Number number) = Faults undefined_opcode_of
change_phrase change m p Other = Faults undefined_opcode_of

-- ADD, OR, ADC, SBB, AND, SUB or XOR. The second operand is read first.
-- Source: Intel 80386 PRM 17.2.2.11, ADC, ADD, AND, OR, SBB, SUB, XOR
unfoldable pub arithmetic_phrase : AluOp → Manner → Operands → Proc → Phrase Proc
arithmetic_phrase op m operands p =
    on_two operands (λ first second. value_phrase m.width p second >>= (λ b. change_phrase (Arithmetic op b) m p first))

-- INC, DEC, NOT or NEG.
-- Source: Intel 80386 PRM 17.2.2.11, DEC, INC, NEG, NOT
unfoldable pub single_phrase : Change → Manner → Operands → Proc → Phrase Proc
single_phrase change m operands p = on_one operands (change_phrase change m p)

-- A shift or rotate, by a number or CL.
-- Source: Intel 80386 PRM 17.2.2.11, RCL/RCR/ROL/ROR, SAL/SAR/SHL/SHR
unfoldable pub shift_phrase : ShiftOp → Manner → Operands → Proc → Phrase Proc
shift_phrase op m operands p =
    on_two operands (λ first count. value_phrase W8 p count >>= (λ n. change_phrase (Shift op n) m p first))

-- SHLD or SHRD, by a number or CL.
-- Source: Intel 80386 PRM 17.2.2.11, SHLD, SHRD
unfoldable pub double_shift_phrase : Bool → Manner → Operands → Proc → Phrase Proc
double_shift_phrase left m operands p =
    on_three operands (λ first second count. value_phrase m.width p second >>= (λ b. value_phrase W8 p count >>= (λ n. change_phrase (DoubleShift left b n) m p first)))

-- an operation of this group
abbrev pub update_phrase : Update → Manner → Operands → Proc → Phrase Proc
update_phrase (updates.Arithmetic op) m operands p = arithmetic_phrase op m operands p
update_phrase (updates.Single change) m operands p = single_phrase change m operands p
update_phrase (updates.Shift op) m operands p = shift_phrase op m operands p
update_phrase (updates.DoubleShift left) m operands p = double_shift_phrase left m operands p
