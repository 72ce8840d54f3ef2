-- The gate of an event, which stands in the IDT.
use Rattle.std.specs.Prelude.{ℕ, Bool, true, false, ◌+◌, ◌*◌, ◌%◌, ◌^◌, if◌then◌else◌, Option, Some, None}
use Rattle.m386_base.specs.declared.ask.Role.TheVariants as roles
use Rattle.m386_base.specs.declared.desc.Desc.{Desc}
use Rattle.m386_base.specs.declared.fault.Fault.{Fault}
use Rattle.m386_base.specs.Phrase.{Phrase, Done, ◌>>=◌}
use Rattle.m386_desc.specs.Selector.{is_in_table}
use Rattle.m386_state.specs.declared.event.Cause.{Cause}
use Rattle.m386_state.specs.declared.event.Cause.TheVariants as causes
use Rattle.m386_state.specs.declared.event.Event.{Event}
use Rattle.m386_state.specs.declared.proc.Proc.{Proc}
use Rattle.m386_state.specs.Start.{cpl_of}
use Rattle.m386_segload.specs.declared.rules.Candidate.{Candidate}
use Rattle.m386_segload.specs.Descriptors.{descriptor_phrase}
use Rattle.m386_segload.specs.Load.{candidate_for}
use Rattle.m386_segload.specs.Rules.{first_broken, need, event_gate_rules}
use Rattle.m386_segload.specs.Segments.{or_zeros}

-- EXT: the event is none that the program itself asks for.
-- Source: Intel 80386 PRM 9.7
abbrev pub is_from_outside : Cause → Bool
is_from_outside causes.Soft = false
is_from_outside _ = true

-- The error code of a fault that names the entry of a vector: the index, and IDT, bit 1, and EXT, bit 0.
-- Source: Intel 80386 PRM 9.7
abbrev pub entry_code : ℕ → Bool → ℕ
entry_code vector ext = vector * 8 + 2 + (if ext then 1 else 0)

-- The gate's privilege is tested for what the program itself asks for.
-- Source: Intel 80386 PRM 9.6.1.4
abbrev pub gate_level : Proc → Cause → ℕ
gate_level p causes.Soft = cpl_of p
gate_level p _ = 0

-- what the rules of a gate are read over
abbrev pub gate_candidate : Proc → Event → Option Desc → Candidate
gate_candidate p e found = candidate_for (gate_level p e.cause) (entry_code e.vector (is_from_outside e.cause)) (e.vector * 8) found

-- The entry of a vector, read as one locked group, where it lies inside the limit.
-- Source: Intel 80386 PRM 9.4; the locked group: docs/DECISIONS.md, "Accesses to descriptors"
unfoldable pub entry_phrase : Proc → ℕ → Phrase (Option Desc)
entry_phrase p vector =
    if is_in_table (vector * 8) p.idtr.limit then (descriptor_phrase roles.Idt ((p.idtr.base + vector * 8) % 2 ^ 32) >>= (λ d. Done (Some d)))
    else Done None

-- a gate where no rule is broken
abbrev pub gate_or_fault : Option Fault → Option Desc → Phrase Desc
gate_or_fault first found = need first (Done (or_zeros found))

-- The gate of an event: its entry, and its rules.
-- Source: Intel 80386 PRM 9.4, 9.5, 9.6.1.4
unfoldable pub gate_phrase : Proc → Event → Phrase Desc
gate_phrase p e = entry_phrase p e.vector >>= (λ found. gate_or_fault (first_broken event_gate_rules (gate_candidate p e found)) found)
