-- LTR: a task is claimed, and TR names it.
use Rattle.std.specs.Prelude.{ℕ, false, bit_or, Option, Some, None}
use Rattle.m386_base.specs.declared.ask.Role.TheVariants.{Gdt, ClaimLtr}
use Rattle.m386_base.specs.declared.desc.Desc.{Desc}
use Rattle.m386_base.specs.declared.fault.Fault.{Fault}
use Rattle.m386_base.specs.Descriptor.{no_descriptor}
use Rattle.m386_base.specs.Phrase.{Phrase, Done, Faults, ◌>>=◌}
use Rattle.m386_desc.specs.Selector.{code_of}
use Rattle.m386_segload.specs.Descriptors.{access_byte_phrase}
use Rattle.m386_segload.specs.Load.{load_global_phrase, candidate_for}
use Rattle.m386_segload.specs.Rules.{first_broken, task_rules}
use Rattle.m386_segload.specs.Segments.{usable_seg}
use Rattle.m386_segload.specs.Tables.{place_for}
use Rattle.m386_state.specs.declared.proc.Proc.{Proc}

-- The busy bit of a descriptor that was read, set; one that isn't there counts as zeros.
-- Source: Intel 80386 PRM 7.3
abbrev pub claim_found : ℕ → Option Desc → Phrase Desc
claim_found address None = Done no_descriptor
claim_found address (Some d) = access_byte_phrase ClaimLtr address (bit_or d.access 2) >>= (λ _. Done d)

abbrev pub claim_or_fault : Option Fault → ℕ → Option Desc → Phrase Desc
claim_or_fault (Some fault) address found = Faults fault
claim_or_fault None address found = claim_found address found

-- the first rule that is broken
abbrev pub task_fault_of : ℕ → Option Desc → Option Fault
task_fault_of selector found = first_broken task_rules (candidate_for 0 (code_of selector false) selector found)

-- The rules of LTR, and the claim behind them, in one locked group with the descriptor's read.
-- Source: Intel 80386 PRM 7.3, 17.2.2.11, LTR; the locked group: docs/DECISIONS.md, "Accesses to descriptors"
unfoldable pub claim_task_phrase : Proc → ℕ → Phrase Desc
claim_task_phrase p selector = load_global_phrase p selector Gdt >>= (λ found. claim_or_fault (task_fault_of selector found) (place_for p selector) found)

-- the state with TR changed: it holds the descriptor as it was read
abbrev pub with_task : Proc → ℕ → Desc → Proc
with_task p selector d = record p { tr = usable_seg selector d }

-- LTR with its selector.
-- Source: Intel 80386 PRM 7.3, 17.2.2.11, LTR
unfoldable pub ltr_phrase : Proc → ℕ → Phrase Proc
ltr_phrase p selector = claim_task_phrase p selector >>= (λ d. Done (with_task p selector d))
