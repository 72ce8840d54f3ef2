-- The descriptors of the new task, rows 8 to 18: each is read when its first row is reached.
use Rattle.std.specs.Prelude.{ℕ, Bool, false, List, [], ◌∷◌, if◌then◌else◌, bit_or, bit_and, Option, Some, None, slice_set, not, ◌&&◌, nat_le, ◌==◌}
use Rattle.m386_base.specs.declared.ask.Role.TheVariants as roles
use Rattle.m386_base.specs.declared.desc.Desc.{Desc}
use Rattle.m386_base.specs.Phrase.{Phrase, Done, ◌>>=◌}
use Rattle.m386_base.specs.Segments.{es, cs, ss, ds, fs, gs}
use Rattle.m386_checks.specs.declared.facts.Facts.{Facts}
use Rattle.m386_checks.specs.declared.facts.Fail.{Fail}
use Rattle.m386_checks.specs.First.{first_fail_of}
use Rattle.m386_checks.specs.Holds.{selector_at}
use Rattle.m386_desc.specs.Selector.{names_ldt, is_null_selector, is_in_table, place_in}
use Rattle.m386_segload.specs.Descriptors.{descriptor_phrase, access_byte_phrase}
use Rattle.m386_segload.specs.Tables.{is_in_ldt, base_of_ldt, table_role, accessed_role}
use Rattle.m386_state.specs.declared.segment.TableReg.{TableReg}

-- The LDT's selector isn't null and names a place in the GDT.
-- Source: Intel 80386 PRM 5.1.3
abbrev pub names_local_table : ℕ → ℕ → Bool
names_local_table limit selector = not (is_null_selector selector) && (not (names_ldt selector) && is_in_table selector limit)

-- A selector of the new task isn't null and names a place in its table: the GDT, or the new LDT.
-- Source: Intel 80386 PRM 5.1.3, 5.1.4
abbrev pub names_place : ℕ → Option Desc → ℕ → Bool
names_place limit ldt selector =
    not (is_null_selector selector) && (if names_ldt selector then is_in_ldt ldt selector else is_in_table selector limit)

-- The address of the descriptor that a selector of the new task names.
-- Source: Intel 80386 PRM 5.1.3
abbrev pub new_place : ℕ → Option Desc → ℕ → ℕ
new_place base ldt selector = place_in (if names_ldt selector then base_of_ldt ldt else base) selector

-- the first row that fails is row 9 or one before it
abbrev pub stops_at_ldt : Option Fail → Bool
stops_at_ldt None = false
stops_at_ldt (Some x) = nat_le x.row 9

-- the first row that fails is one of rows 10 to 18, for this segment register
abbrev pub stops_at : ℕ → Option Fail → Bool
stops_at seg None = false
stops_at seg (Some x) = (x.seg == seg) && (nat_le 10 x.row && nat_le x.row 18)

abbrev pub with_ldt : Facts → Desc → Facts
with_ldt f d = record f { ldt_desc = Some d }

abbrev pub with_desc : Facts → ℕ → Desc → Facts
with_desc f seg d = record f { seg_descs = slice_set f.seg_descs seg (Some d) }

-- The descriptor of the LDT, where its selector names one.
-- Source: Intel 80386 PRM 7.5
unfoldable pub ldt_phrase : TableReg → Facts → Phrase Facts
ldt_phrase gdt f =
    if names_local_table gdt.limit f.ldt then (descriptor_phrase roles.Gdt (place_in gdt.base f.ldt) >>= (λ d. Done (with_ldt f d)))
    else Done f

-- the rows of a segment register hold with this descriptor, and its accessed bit is clear
abbrev pub is_to_mark : Facts → ℕ → Desc → Bool
is_to_mark f seg d = not (stops_at seg (first_fail_of (with_desc f seg d))) && (bit_and d.access 1 == 0)

-- The accessed bit, where it is to be set.
-- Source: Intel 80386 PRM 5.1.1; docs/DECISIONS.md, "Accesses to descriptors"
unfoldable pub mark_phrase : ℕ → ℕ → Facts → ℕ → Desc → Phrase Facts
mark_phrase address selector f seg d =
    if is_to_mark f seg d then (access_byte_phrase (accessed_role selector) address (bit_or d.access 1) >>= (λ _. Done (with_desc f seg d)))
    else Done (with_desc f seg d)

-- The descriptor of a segment register and its accessed bit, as one locked group.
-- Source: Intel 80386 PRM 7.5; the accessed bit: docs/DECISIONS.md, "Accesses to descriptors"
unfoldable pub described_phrase : ℕ → ℕ → Facts → ℕ → Phrase Facts
described_phrase address selector f seg = descriptor_phrase (table_role selector) address >>= mark_phrase address selector f seg

-- The descriptor of a segment register, where its selector names one.
-- Source: Intel 80386 PRM 7.5
unfoldable pub segment_phrase : TableReg → Facts → ℕ → Phrase Facts
segment_phrase gdt f seg =
    if names_place gdt.limit f.ldt_desc (selector_at f seg) then described_phrase (new_place gdt.base f.ldt_desc (selector_at f seg)) (selector_at f seg) f seg
    else Done f

-- segment registers in turn, up to the first of which a row fails
unfoldable pub segments : TableReg → Facts → List ℕ → Phrase Facts
segments gdt f [] = Done f
segments gdt f (seg ∷ segs) =
    segment_phrase gdt f seg >>= (λ f2. if stops_at seg (first_fail_of f2) then Done f2 else segments gdt f2 segs)

-- The segment registers in the order of their rows.
-- Own choice: docs/DECISIONS.md, "The check table of a task switch"
abbrev pub segment_order : List ℕ
segment_order = cs ∷ ss ∷ ds ∷ es ∷ fs ∷ gs ∷ []

-- The descriptors of the new task up to the first row that fails; what is found are the finished facts.
-- Source: Intel 80386 PRM 7.5; the order: docs/DECISIONS.md, "The order of bus cycles"
unfoldable pub later_phrase : TableReg → Facts → Phrase Facts
later_phrase gdt f =
    ldt_phrase gdt f >>= (λ f2. if stops_at_ldt (first_fail_of f2) then Done f2 else segments gdt f2 segment_order)
