-- Where the descriptor of a selector stands.
use Rattle.std.specs.Prelude.{ℕ, Bool, false, not, ◌&&◌, if◌then◌else◌, Option, Some, None}
use Rattle.m386_base.specs.declared.ask.Role.{Role}
use Rattle.m386_base.specs.declared.ask.Role.TheVariants as roles
use Rattle.m386_base.specs.declared.desc.Desc.{Desc}
use Rattle.m386_desc.specs.Offsets.{limit_of}
use Rattle.m386_desc.specs.Selector.{is_null_selector, names_ldt, is_in_table, place_in}
use Rattle.m386_state.specs.declared.proc.Proc.{Proc}
use Rattle.m386_state.specs.declared.segment.Seg.{Seg}

-- the descriptor that a register holds, where it may be used
abbrev pub held : Seg → Option Desc
held s = if s.usable then Some s.desc else None

-- it names a place in the LDT that is held
abbrev pub is_in_ldt : Option Desc → ℕ → Bool
is_in_ldt None selector = false
is_in_ldt (Some d) selector = is_in_table selector (limit_of d)

abbrev pub base_of_ldt : Option Desc → ℕ
base_of_ldt None = 0
base_of_ldt (Some d) = d.base

-- The selector isn't null and names a place in its table: the GDT, or an LDT that may be used.
-- Source: Intel 80386 PRM 5.1.3, 5.1.4
abbrev pub is_there : Proc → ℕ → Bool
is_there p selector = not (is_null_selector selector) && (if names_ldt selector then is_in_ldt (held p.ldtr) selector else is_in_table selector p.gdtr.limit)

-- The selector isn't null and names a place in the GDT.
-- Source: Intel 80386 PRM 5.1.3
abbrev pub is_in_gdt : Proc → ℕ → Bool
is_in_gdt p selector = not (is_null_selector selector) && (not (names_ldt selector) && is_in_table selector p.gdtr.limit)

-- The address of the descriptor that a selector names.
-- Source: Intel 80386 PRM 5.1.3
abbrev pub place_for : Proc → ℕ → ℕ
place_for p selector = place_in (if names_ldt selector then base_of_ldt (held p.ldtr) else p.gdtr.base) selector

-- the role of its read
abbrev pub table_role : ℕ → Role
table_role selector = if names_ldt selector then roles.Ldt else roles.Gdt

-- the role of its access byte's write
abbrev pub accessed_role : ℕ → Role
accessed_role selector = if names_ldt selector then roles.LdtAcc else roles.GdtAcc
