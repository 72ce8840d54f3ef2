-- What string operations do with one element.
use Rattle.std.specs.Prelude.{ℕ, ◌+◌, ◌-◌, ◌%◌, ◌^◌, Option, Some, None, if◌then◌else◌}
use Rattle.m386_base.specs.declared.ask.Role.TheVariants as roles
use Rattle.m386_base.specs.declared.flags.Flag.TheVariants.{Direction}
use Rattle.m386_base.specs.declared.number.Width.{Width}
use Rattle.m386_base.specs.Exceptions.{undefined_opcode_of}
use Rattle.m386_base.specs.Flags.{has_flag}
use Rattle.m386_base.specs.Phrase.{Phrase, Done, Faults, ◌>>=◌}
use Rattle.m386_base.specs.Segments.{es}
use Rattle.m386_alu.specs.Arithmetic.{alu_of}
use Rattle.m386_alu.specs.Width.{bits}
use Rattle.m386_alu.specs.declared.arithmetic.AluOp.TheVariants.{Cmp}
use Rattle.m386_opmap.specs.declared.name.Name.{Name}
use Rattle.m386_opmap.specs.declared.name.Name.TheVariants as names
use Rattle.m386_opmap.specs.declared.op.Addr.{Addr}
use Rattle.m386_state.specs.declared.proc.Proc.{Proc}
use Rattle.m386_access.specs.Access.{read_phrase, write_phrase, read_at_phrase}
use Rattle.m386_access.specs.After.{len_of, register_of, with_register, register_at, with_register_at, with_flags}
use Rattle.m386_access.specs.Registers.{eax, esi, edi}
use Rattle.m386_access.specs.declared.operands.Place.TheVariants.{Memory}
use Rattle.m386_access.specs.declared.operands.Operands.{Operands}
use Rattle.m386_access.specs.declared.operands.Operands.TheVariants.{Absent, One}
use Rattle.m386_string.specs.declared.element.Element.{Element}
use Rattle.m386_string.specs.declared.element.Element.TheVariants.{Move, Compare, Store, Load, Scan}

-- What the operation of a name does with an element, where it is a string operation.
-- Source: Intel 80386 PRM 3.6.3
abbrev pub element_of : Name → Option Element
element_of names.Movs = Some Move
element_of names.Cmps = Some Compare
element_of names.Stos = Some Store
element_of names.Lods = Some Load
element_of names.Scas = Some Scan
element_of _ = None

-- With an index register past its element: up by the element's bytes where DF is 0, and down where it is 1.
-- Source: Intel 80386 PRM 3.6.2
abbrev pub past_element : Width → ℕ → Proc → Proc
past_element w index p =
    if has_flag Direction p.eflags then with_register p index ((register_of p index + (2 ^ 32 - len_of w)) % 2 ^ 32)
    else with_register p index ((register_of p index + len_of w) % 2 ^ 32)

-- with the flags of a difference of two elements
abbrev pub compared : Width → ℕ → ℕ → Proc → Proc
compared w a b p = with_flags p (alu_of Cmp w (a % 2 ^ bits w) (b % 2 ^ bits w) p.eflags).1

-- MOVS: the element at the source, stored at ES:EDI.
-- Source: Intel 80386 PRM 17.2.2.11, MOVS
unfoldable pub move_element_phrase : Width → Addr → Proc → Phrase Proc
move_element_phrase w source p = do
  element ← read_at_phrase p source (len_of w)
  _ ← write_phrase p roles.Operand es (register_of p edi) (len_of w) element
  Done (past_element w edi (past_element w esi p))

-- CMPS: the element at the source less that at ES:EDI, for the flags.
-- Source: Intel 80386 PRM 17.2.2.11, CMPS
-- Own choice: docs/DECISIONS.md, "String operations"
unfoldable pub compare_elements_phrase : Width → Addr → Proc → Phrase Proc
compare_elements_phrase w source p = do
  first ← read_at_phrase p source (len_of w)
  second ← read_phrase p roles.Operand es (register_of p edi) (len_of w)
  Done (compared w first second (past_element w edi (past_element w esi p)))

-- STOS: AL, AX or EAX, stored at ES:EDI.
-- Source: Intel 80386 PRM 17.2.2.11, STOS
unfoldable pub store_element_phrase : Width → Proc → Phrase Proc
store_element_phrase w p = do
  _ ← write_phrase p roles.Operand es (register_of p edi) (len_of w) (register_at w p eax)
  Done (past_element w edi p)

-- LODS: AL, AX or EAX loaded with the element at the source.
-- Source: Intel 80386 PRM 17.2.2.11, LODS
unfoldable pub load_element_phrase : Width → Addr → Proc → Phrase Proc
load_element_phrase w source p = do
  element ← read_at_phrase p source (len_of w)
  Done (with_register_at w (past_element w esi p) eax element)

-- SCAS: AL, AX or EAX less the element at ES:EDI, for the flags.
-- Source: Intel 80386 PRM 17.2.2.11, SCAS
unfoldable pub scan_element_phrase : Width → Proc → Phrase Proc
scan_element_phrase w p = do
  element ← read_phrase p roles.Operand es (register_of p edi) (len_of w)
  Done (compared w (register_at w p eax) element (past_element w edi p))

-- One element. Its source, at ESI, is the operand: a segment prefix changes that segment, and none changes ES. Other operands
-- are #UD.
-- Source: Intel 80386 PRM 2.5.3.1, 3.6.2; #UD: docs/DECISIONS.md, "Operations that aren't built"
abbrev pub element_phrase : Element → Width → Operands → Proc → Phrase Proc
element_phrase Move w (One (Memory source)) p = move_element_phrase w source p
element_phrase Compare w (One (Memory source)) p = compare_elements_phrase w source p
element_phrase Store w Absent p = store_element_phrase w p
element_phrase Load w (One (Memory source)) p = load_element_phrase w source p
element_phrase Scan w Absent p = scan_element_phrase w p
element_phrase _ w operands p = Faults undefined_opcode_of
