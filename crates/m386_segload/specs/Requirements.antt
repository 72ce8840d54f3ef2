-- What each rule of a table requires of a descriptor that a selector names.
use Rattle.std.specs.Prelude.{ℕ, Bool, true, false, not, ◌&&◌, ◌||◌, ◌==◌, ◌+◌, ◌*◌, nat_le, if◌then◌else◌, is_some}
use Rattle.m386_base.specs.declared.desc.Desc.{Desc}
use Rattle.m386_checks.specs.Descriptor.{given, is_reached_from, may_be_data_from, runs_at, has_level, holds_offset, is_ldt, is_marked}
use Rattle.m386_desc.specs.declared.kind.Kind.{Kind}
use Rattle.m386_desc.specs.declared.kind.Kind.TheVariants as kinds
use Rattle.m386_desc.specs.Access.{dpl_of, is_present, is_code_32, is_conforming, is_readable, is_writable, kind_of}
use Rattle.m386_desc.specs.Offsets.{limit_of}
use Rattle.m386_desc.specs.Selector.{rpl_of, is_null_selector}
use Rattle.m386_segload.specs.declared.rules.Candidate.{Candidate}
use Rattle.m386_segload.specs.declared.rules.Requirement.{Requirement}
use Rattle.m386_segload.specs.declared.rules.Requirement.TheVariants as requirements

abbrev pub has_dpl_to : ℕ → Desc → Bool
has_dpl_to level d = nat_le (dpl_of d) level

abbrev pub has_dpl_from : ℕ → Desc → Bool
has_dpl_from level d = nat_le level (dpl_of d)

abbrev pub conforms_or_has_level : ℕ → Desc → Bool
conforms_or_has_level level d = is_conforming d || has_level level d

-- Code that a far JMP or CALL may go to without a gate.
-- Source: Intel 80386 PRM 6.3.3
abbrev pub is_reached_directly : ℕ → ℕ → Desc → Bool
is_reached_directly level rpl d = if is_conforming d then nat_le (dpl_of d) level else nat_le rpl level && has_level level d

-- A gate that stands in the IDT: a task gate, an interrupt gate or a trap gate.
-- Source: Intel 80386 PRM 9.5
abbrev pub is_event_kind : Kind → Bool
is_event_kind kinds.TaskGate = true
is_event_kind kinds.IntGate = true
is_event_kind kinds.TrapGate = true
is_event_kind _ = false

abbrev pub is_event_gate : Desc → Bool
is_event_gate d = is_event_kind (kind_of d)

-- The last byte of SSn, at 4 + 8n + 5, lies in the TSS.
-- Source: Intel 80386 PRM 7.1
abbrev pub holds_stack : ℕ → Desc → Bool
holds_stack level d = nat_le (8 * level + 9) (limit_of d)

-- What LAR knows.
-- Own choice: docs/DECISIONS.md, "Types for LAR and LSL"
abbrev pub has_rights : Kind → Bool
has_rights (kinds.DataSeg down writable) = true
has_rights (kinds.CodeSeg conforming readable) = true
has_rights (kinds.Tss busy) = true
has_rights kinds.Ldt = true
has_rights kinds.TaskGate = true
has_rights kinds.CallGate = true
has_rights _ = false

-- What LSL knows.
-- Own choice: docs/DECISIONS.md, "Types for LAR and LSL"
abbrev pub has_limit : Kind → Bool
has_limit (kinds.DataSeg down writable) = true
has_limit (kinds.CodeSeg conforming readable) = true
has_limit (kinds.Tss busy) = true
has_limit kinds.Ldt = true
has_limit _ = false

abbrev pub shows_rights : Desc → Bool
shows_rights d = has_rights (kind_of d)

abbrev pub shows_limit : Desc → Bool
shows_limit d = has_limit (kind_of d)

-- Whether a requirement is met.
-- Source: Intel 80386 PRM 6.3, 7.1, 9.5, 9.6
unfoldable pub is_met : Requirement → Candidate → Bool
is_met requirements.NotNull c = not (is_null_selector c.selector)
is_met requirements.InTable c = is_some c.desc
is_met requirements.RplIsLevel c = rpl_of c.selector == c.level
is_met requirements.RplAtLeastLevel c = nat_le c.level (rpl_of c.selector)
is_met requirements.Writable c = given c.desc is_writable
is_met requirements.Readable c = given c.desc is_readable
is_met requirements.Code c = given c.desc is_code_32
is_met requirements.LocalTable c = given c.desc is_ldt
is_met requirements.AvailableTss c = given c.desc (is_marked false)
is_met requirements.EventGate c = given c.desc is_event_gate
is_met requirements.WithRights c = given c.desc shows_rights
is_met requirements.WithLimit c = given c.desc shows_limit
is_met requirements.DplIsLevel c = given c.desc (has_level c.level)
is_met requirements.DplAtMostLevel c = given c.desc (has_dpl_to c.level)
is_met requirements.DplAtLeastLevel c = given c.desc (has_dpl_from c.level)
is_met requirements.ConformingOrLevel c = given c.desc (conforms_or_has_level c.level)
is_met requirements.MayBeData c = given c.desc (may_be_data_from c.level (rpl_of c.selector))
is_met requirements.ReachedDirectly c = given c.desc (is_reached_directly c.level (rpl_of c.selector))
is_met requirements.RunsAtRpl c = given c.desc (runs_at (rpl_of c.selector))
is_met requirements.ReachedFrom c = given c.desc (is_reached_from c.level (rpl_of c.selector))
is_met requirements.HoldsStack c = given c.desc (holds_stack c.level)
is_met requirements.HoldsOffset c = given c.desc (holds_offset c.offset)
is_met requirements.Present c = given c.desc is_present
