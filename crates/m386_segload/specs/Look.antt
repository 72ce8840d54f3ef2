-- What LAR, LSL, VERR and VERW find.
use Rattle.std.specs.Prelude.{ℕ, Bool, ◌+◌, ◌*◌, ◌^◌, ◌&&◌, if◌then◌else◌, Option, Some, None}
use Rattle.m386_base.specs.declared.desc.Desc.{Desc}
use Rattle.m386_base.specs.Phrase.{Phrase, Done, ◌>>=◌}
use Rattle.m386_desc.specs.Offsets.{limit_of}
use Rattle.m386_state.specs.declared.proc.Proc.{Proc}
use Rattle.m386_state.specs.Start.{cpl_of}
use Rattle.m386_segload.specs.declared.wanted.Look.{Look}
use Rattle.m386_segload.specs.declared.wanted.Look.TheVariants.{Lar, Lsl, Verr, Verw}
use Rattle.m386_segload.specs.declared.rules.Candidate.{Candidate}
use Rattle.m386_segload.specs.declared.rules.Requirement.{Requirement}
use Rattle.m386_segload.specs.declared.rules.Requirement.TheVariants as requirements
use Rattle.m386_segload.specs.Load.{load_desc_phrase, candidate_for}
use Rattle.m386_segload.specs.Requirements.{is_met}
use Rattle.m386_segload.specs.Tables.{table_role}

-- The type that each of them takes.
-- Source: Intel 80386 PRM 17.2.2.11, VERR, VERW; LAR and LSL: docs/DECISIONS.md, "Types for LAR and LSL"
abbrev pub type_wanted : Look → Requirement
type_wanted Lar = requirements.WithRights
type_wanted Lsl = requirements.WithLimit
type_wanted Verr = requirements.Readable
type_wanted Verw = requirements.Writable

-- It may be looked at: it is in its table, of a valid type, and conforming code or of a DPL that is at least CPL and RPL.
-- Source: Intel 80386 PRM 6.3.6.1
abbrev pub is_visible : Look → Candidate → Bool
is_visible what c = is_met requirements.InTable c && (is_met (type_wanted what) c && is_met requirements.MayBeData c)

-- What is found: for LAR the bytes 4 to 7 of the descriptor under the mask 00F0FF00h, for LSL the limit with G applied.
-- Source: Intel 80386 PRM 17.2.2.11, LAR, LSL
abbrev pub shown : Look → Desc → ℕ
shown Lar d = d.flags * 2 ^ 20 + d.access * 2 ^ 8
shown Lsl d = limit_of d
shown Verr d = 0
shown Verw d = 0

abbrev pub shown_of : Look → Option Desc → ℕ
shown_of what None = 0
shown_of what (Some d) = shown what d

abbrev pub looked : Look → Candidate → Option ℕ
looked what c = if is_visible what c then Some (shown_of what c.desc) else None

-- A look at the descriptor of a selector, at CPL.
-- Source: Intel 80386 PRM 6.3.6.1
unfoldable pub look_phrase : Proc → Look → ℕ → Phrase (Option ℕ)
look_phrase p what selector =
    load_desc_phrase p selector (table_role selector) >>= (λ found. Done (looked what (candidate_for (cpl_of p) 0 selector found)))
