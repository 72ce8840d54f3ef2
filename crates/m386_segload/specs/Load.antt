-- Descriptors read by their selectors, tested by a table, and taken.
use Rattle.std.specs.Prelude.{ℕ, Bool, List, ◌==◌, if◌then◌else◌, bit_or, bit_and, Option, Some, None}
use Rattle.m386_base.specs.declared.ask.Role.{Role}
use Rattle.m386_base.specs.declared.desc.Desc.{Desc}
use Rattle.m386_base.specs.declared.fault.Fault.{Fault}
use Rattle.m386_base.specs.Descriptor.{no_descriptor}
use Rattle.m386_base.specs.Phrase.{Phrase, Done, Faults, ◌>>=◌}
use Rattle.m386_desc.specs.Selector.{code_of}
use Rattle.m386_state.specs.declared.proc.Proc.{Proc}
use Rattle.m386_segload.specs.declared.rules.Candidate.{Candidate}
use Rattle.m386_segload.specs.declared.rules.Rule.{Rule}
use Rattle.m386_segload.specs.Descriptors.{descriptor_phrase, access_byte_phrase}
use Rattle.m386_segload.specs.Rules.{first_broken}
use Rattle.m386_segload.specs.Tables.{is_there, is_in_gdt, place_for, table_role, accessed_role}

-- The descriptor of a selector, which begins a locked group. None, with no cycle, where the selector is null or lies outside its
-- table.
-- Source: Intel 80386 PRM 5.1.3
unfoldable pub load_desc_phrase : Proc → ℕ → Role → Phrase (Option Desc)
load_desc_phrase p selector role =
    if is_there p selector then (descriptor_phrase role (place_for p selector) >>= (λ d. Done (Some d)))
    else Done None

-- The same where the GDT alone serves: None, with no cycle, for a place in the LDT too.
-- Source: Intel 80386 PRM 5.1.3
unfoldable pub load_global_phrase : Proc → ℕ → Role → Phrase (Option Desc)
load_global_phrase p selector role =
    if is_in_gdt p selector then (descriptor_phrase role (place_for p selector) >>= (λ d. Done (Some d)))
    else Done None

-- what a table is read over
abbrev pub candidate_for : ℕ → ℕ → ℕ → Option Desc → Candidate
candidate_for level code selector found = record { selector = selector; desc = found; level = level; code = code; offset = 0 }

-- The accessed bit, where it is clear: its write ends the locked group, and stays though a later test fails.
-- Source: Intel 80386 PRM 5.1.1; docs/DECISIONS.md, "Accesses to descriptors"
unfoldable pub mark_phrase : ℕ → ℕ → Desc → Phrase Desc
mark_phrase address selector d =
    if bit_and d.access 1 == 0 then (access_byte_phrase (accessed_role selector) address (bit_or d.access 1) >>= (λ _. Done d))
    else Done d

-- a descriptor that isn't there has no byte to mark, and counts as zeros
abbrev pub mark_found : ℕ → ℕ → Option Desc → Phrase Desc
mark_found address selector None = Done no_descriptor
mark_found address selector (Some d) = mark_phrase address selector d

abbrev pub mark_or_fault : Option Fault → ℕ → Candidate → Phrase Desc
mark_or_fault (Some fault) address c = Faults fault
mark_or_fault None address c = mark_found address c.selector c.desc

-- The rules of a table, and then the accessed bit.
unfoldable pub judge_phrase : List Rule → ℕ → Candidate → Phrase Desc
judge_phrase rules address c = mark_or_fault (first_broken rules c) address c

-- The segment of a selector, tested by a table for a level and marked, as one locked group.
-- Source: Intel 80386 PRM 6.3; the locked group: docs/DECISIONS.md, "Accesses to descriptors"
unfoldable pub take_phrase : List Rule → Proc → ℕ → Bool → ℕ → Phrase Desc
take_phrase rules p level ext selector =
    load_desc_phrase p selector (table_role selector) >>= (λ found. judge_phrase rules (place_for p selector) (candidate_for level (code_of selector ext) selector found))
