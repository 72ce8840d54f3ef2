-- The registers of the GDT, the IDT and the LDT.
use Rattle.std.specs.Prelude.{ℕ, ◌+◌, ◌%◌, ◌^◌}
use Rattle.m386_base.specs.declared.ask.Role.{Role}
use Rattle.m386_base.specs.declared.ask.Role.TheVariants as roles
use Rattle.m386_base.specs.declared.number.Width.{Width}
use Rattle.m386_base.specs.declared.number.Width.TheVariants.{W16}
use Rattle.m386_base.specs.Phrase.{Phrase, Done, ◌>>=◌}
use Rattle.m386_opmap.specs.declared.op.Addr.{Addr}
use Rattle.m386_state.specs.declared.proc.Proc.{Proc}
use Rattle.m386_state.specs.declared.segment.Seg.{Seg}
use Rattle.m386_state.specs.declared.segment.TableReg.{TableReg}
use Rattle.m386_access.specs.Access.{read_phrase, write_phrase}
use Rattle.m386_access.specs.Address.{segment_number, offset_of}
use Rattle.m386_access.specs.Operands.{value_phrase, on_one, on_memory}
use Rattle.m386_access.specs.declared.operands.Operands.{Operands}
use Rattle.m386_access.specs.declared.operands.Place.{Place}
use Rattle.m386_segload.specs.Segments.{local_table_phrase}
use Rattle.m386_system.specs.declared.work.Table.{Table}
use Rattle.m386_system.specs.declared.work.Table.TheVariants.{Global, Interrupts}

-- the role of the reads of a table's register
abbrev pub table_role_of : Table → Role
table_role_of Global = roles.Lgdt
table_role_of Interrupts = roles.Lidt

-- how much of the base counts
abbrev pub base_of_width : Width → ℕ → ℕ
base_of_width W16 base = base % 2 ^ 24
base_of_width _ base = base

-- A table's register: of an operation of 16 bits the base has 24.
-- Source: Intel 80386 PRM 17.2.2.11, LGDT/LIDT
abbrev pub table_of : Width → ℕ → ℕ → TableReg
table_of width limit base = record { base = base_of_width width base; limit = limit % 2 ^ 16 }

-- with a table's register changed
abbrev pub with_table : Proc → Table → TableReg → Proc
with_table p Global r = record p { gdtr = r }
with_table p Interrupts r = record p { idtr = r }

-- a table's register
abbrev pub register_in : Proc → Table → TableReg
register_in p Global = p.gdtr
register_in p Interrupts = p.idtr

-- with LDTR changed
abbrev pub with_local_table : Proc → Seg → Proc
with_local_table p s = record p { ldtr = s }

-- The limit, and the base 2 behind it, each by an access of its own.
-- Source: Intel 80386 PRM 17.2.2.11, LGDT/LIDT; docs/DECISIONS.md, "Operands of several parts"
unfoldable pub table_operand_phrase : Proc → Role → Width → Addr → Phrase TableReg
table_operand_phrase p role width a = do
  limit ← read_phrase p role (segment_number a.seg a.base) (offset_of p a) 2
  base ← read_phrase p role (segment_number a.seg a.base) ((offset_of p a + 2) % 2 ^ 32) 4
  Done (table_of width limit base)

-- a table's register, loaded from memory
unfoldable pub load_table_phrase : Proc → Table → Width → Addr → Phrase Proc
load_table_phrase p table width a = table_operand_phrase p (table_role_of table) width a >>= (λ r. Done (with_table p table r))

-- LGDT, LIDT.
-- Source: Intel 80386 PRM 17.2.2.11, LGDT/LIDT
unfoldable pub load_phrase : Proc → Table → Width → Operands → Phrase Proc
load_phrase p table width operands = on_one operands (λ first. on_memory first (load_table_phrase p table width))

-- A table's register, stored in memory: the limit, and the whole base 2 behind it.
-- Source: Intel 80386 PRM 17.2.2.11, SGDT/SIDT; docs/DECISIONS.md, "The base that SGDT and SIDT store"
unfoldable pub store_table_phrase : Proc → TableReg → Addr → Phrase Proc
store_table_phrase p r a = do
  _ ← write_phrase p roles.Operand (segment_number a.seg a.base) (offset_of p a) 2 r.limit
  _ ← write_phrase p roles.Operand (segment_number a.seg a.base) ((offset_of p a + 2) % 2 ^ 32) 4 r.base
  Done p

-- SGDT, SIDT.
-- Source: Intel 80386 PRM 17.2.2.11, SGDT/SIDT
unfoldable pub store_phrase : Proc → Table → Operands → Phrase Proc
store_phrase p table operands = on_one operands (λ first. on_memory first (store_table_phrase p (register_in p table)))

-- LDTR, loaded by an operand
unfoldable pub local_operand_phrase : Proc → Place → Phrase Proc
local_operand_phrase p operand = do
  selector ← value_phrase W16 p operand
  ldtr ← local_table_phrase p (selector % 2 ^ 16)
  Done (with_local_table p ldtr)

-- LLDT.
-- Source: Intel 80386 PRM 17.2.2.11, LLDT
unfoldable pub load_local_phrase : Proc → Operands → Phrase Proc
load_local_phrase p operands = on_one operands (local_operand_phrase p)
