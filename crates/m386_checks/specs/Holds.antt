-- What each test of the check table says.
use Rattle.std.specs.Prelude.{ℕ, Bool, true, false, not, ◌&&◌, ◌||◌, ◌==◌, nat_le, if◌then◌else◌, Option, Some, None, slice_index, slice_index_or}
use Rattle.m386_base.specs.declared.desc.Desc.{Desc}
use Rattle.m386_base.specs.Segments.{cs, ss}
use Rattle.m386_desc.specs.Access.{is_present, is_code_32, is_readable, is_writable}
use Rattle.m386_desc.specs.Selector.{rpl_of, names_ldt, is_null_selector}
use Rattle.m386_checks.specs.Descriptor.{given, is_reached_from, is_tss, is_marked, has_all_fields, is_ldt, runs_at, has_level, may_be_data_from, holds_offset}
use Rattle.m386_checks.specs.declared.facts.Facts.{Facts}
use Rattle.m386_base.specs.declared.kind.SwitchKind.{SwitchKind}
use Rattle.m386_base.specs.declared.kind.SwitchKind.TheVariants as switches
use Rattle.m386_checks.specs.declared.table.Test.{Test}
use Rattle.m386_checks.specs.declared.table.Test.TheVariants as tests

-- the selector of a segment register, in the order ES, CS, SS, DS, FS, GS
abbrev pub selector_at : Facts → ℕ → ℕ
selector_at f seg = slice_index f.segs seg

-- its descriptor
abbrev pub descriptor_at : Facts → ℕ → Option Desc
descriptor_at f seg = slice_index_or f.seg_descs seg None

-- the new task's privilege level: the RPL of its CS
abbrev pub new_cpl : Facts → ℕ
new_cpl f = rpl_of (selector_at f cs)

abbrev pub is_start : SwitchKind → Bool
is_start switches.Start = true
is_start _ = false

-- a JMP or CALL, through a gate or not
abbrev pub is_jump : SwitchKind → Bool
is_jump switches.Jmp = true
is_jump switches.Call = true
is_jump _ = false

-- the mark that the new TSS must bear: busy for IRET, and available for all else
abbrev pub mark_wanted : SwitchKind → Bool
mark_wanted switches.Iret = true
mark_wanted _ = false

-- The tests of the table's rows, in their order. `seg` is the data segment register whose turn it is.
-- Source: Intel 80386 PRM 7.5; the rows: docs/DECISIONS.md, "The check table of a task switch"
unfoldable pub test_holds : Test → Facts → ℕ → Bool
test_holds tests.TrUsable f seg = is_start f.kind || f.tr_usable
test_holds tests.TssInGdt f seg = not (is_null_selector f.selector) && not (names_ldt f.selector) && f.in_gdt
test_holds tests.TssOf386 f seg = given f.tss is_tss
test_holds tests.TssPrivilege f seg = not (f.direct && is_jump f.kind) || given f.tss (is_reached_from f.cpl f.rpl)
test_holds tests.TssState f seg = given f.tss (is_marked (mark_wanted f.kind))
test_holds tests.TssPresent f seg = given f.tss is_present
test_holds tests.TssLimit f seg = given f.tss has_all_fields
test_holds tests.LdtInGdt f seg = is_null_selector f.ldt || (not (names_ldt f.ldt) && given f.ldt_desc is_ldt)
test_holds tests.LdtPresent f seg = is_null_selector f.ldt || given f.ldt_desc is_present
test_holds tests.CsCode f seg = not (is_null_selector (selector_at f cs)) && given (descriptor_at f cs) is_code_32
test_holds tests.CsPrivilege f seg = given (descriptor_at f cs) (runs_at (rpl_of (selector_at f cs)))
test_holds tests.CsPresent f seg = given (descriptor_at f cs) is_present
test_holds tests.SsWritable f seg = not (is_null_selector (selector_at f ss)) && given (descriptor_at f ss) is_writable
test_holds tests.SsPrivilege f seg = rpl_of (selector_at f ss) == new_cpl f && given (descriptor_at f ss) (has_level (new_cpl f))
test_holds tests.SsPresent f seg = given (descriptor_at f ss) is_present
test_holds tests.DataReadable f seg = is_null_selector (selector_at f seg) || given (descriptor_at f seg) is_readable
test_holds tests.DataPrivilege f seg =
    is_null_selector (selector_at f seg) || given (descriptor_at f seg) (may_be_data_from (new_cpl f) (rpl_of (selector_at f seg)))
test_holds tests.DataPresent f seg = is_null_selector (selector_at f seg) || given (descriptor_at f seg) is_present
test_holds tests.EipInLimit f seg = given (descriptor_at f cs) (holds_offset f.eip)
