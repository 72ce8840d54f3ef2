-- The one line that tells of the run of an image which was made from a number.
use Rattle.std.specs.Prelude.{ℕ, zero, suc, ◌+◌, Bool, true, false, if◌then◌else◌, List, [], ◌∷◌, ◌++◌, length, is_some, codes, decimal}
use Rattle.std.specs.List.{count_by}
use Rattle.m386_base.specs.declared.ask.Cycle.{Cycle}
use Rattle.m386_base.specs.declared.ask.Role.{Role}
use Rattle.m386_base.specs.declared.ask.Role.TheVariants.{ClaimJmp, ClaimCall, ClaimStart, ClaimLtr}
use Rattle.m386_desc.specs.Access.{kind_of}
use Rattle.m386_image.specs.declared.image.Image.{Image}
use Rattle.m386_image.specs.declared.image.TableAt.{TableAt}
use Rattle.m386_image.specs.Memory.{byte_of_image}
use Rattle.m386_book.specs.declared.verdict.Verdict.{Verdict}
use Rattle.m386_book.specs.declared.verdict.Verdict.TheVariants.{Clean, Static, At}
use Rattle.m386_trace.specs.Line.{line_text}
use Rattle.m386_trace.specs.Tasks.{described, descriptor_at, tss_busy}

-- how many of the descriptors with the numbers 1 to n are of a 386 TSS, present or not
unfoldable pub tasks_among : (ℕ → ℕ) → TableAt → ℕ → ℕ
tasks_among byte table zero = 0
tasks_among byte table (suc n) = tasks_among byte table n + (if is_some (tss_busy (kind_of (descriptor_at byte table (n + 1)))) then 1 else 0)

-- How many tasks the GDT of an image has, as the image lays it out.
-- Own choice: docs/DECISIONS.md, "Soak"
abbrev pub tasks_of : Image → ℕ
tasks_of image = tasks_among (byte_of_image image) image.gdt (described image.gdt)

-- whether a cycle has a claim role
abbrev pub is_claim_role : Role → Bool
is_claim_role ClaimJmp = true
is_claim_role ClaimCall = true
is_claim_role ClaimStart = true
is_claim_role ClaimLtr = true
is_claim_role _ = false

-- How many cycles of a history have a claim role.
-- Own choice: docs/DECISIONS.md, "Soak"
abbrev pub claims_in : List Cycle → ℕ
claims_in history = count_by (λ c. is_claim_role c.ask.role) history

-- the words of a verdict, which the report has as a line
abbrev pub verdict_fields : Verdict → List (List ℕ)
verdict_fields Clean = codes "clean" ∷ []
verdict_fields (Static rule) = codes "unclean" ∷ codes "rule" ∷ decimal rule ∷ []
verdict_fields (At rule index) = codes "unclean" ∷ codes "rule" ∷ decimal rule ∷ codes "at" ∷ decimal index ∷ []

-- the fields of the line that are numbers, each behind its name but for the first
abbrev pub soak_fields : ℕ → ℕ → ℕ → List Cycle → List (List ℕ)
soak_fields number cpus tasks history =
    decimal number ∷ codes "cpus" ∷ decimal cpus ∷ codes "tasks" ∷ decimal tasks ∷ codes "cycles" ∷ decimal (length history) ∷ codes "claims" ∷ decimal (claims_in history) ∷ []

-- The line of a run of the image of a number: how many processors and tasks that image has, how many cycles the run has, how many of these
-- have a claim role, and the verdict on it.
-- Own choice: docs/DECISIONS.md, "Soak"
unfoldable pub soak_text : ℕ → ℕ → ℕ → List Cycle → Verdict → List ℕ
soak_text number cpus tasks history verdict = line_text (codes "soak") (soak_fields number cpus tasks history ++ verdict_fields verdict)
