-- Whole histories: the cycles of each processor are those of steps, one after another, and of the front of one more.
use Rattle.std.specs.Prelude.{◌≡◌, ℕ, ◌<◌, ◌==◌, ◌⊎◌, true, false, List, [], ◌∷◌, ◌++◌, length, slice_index, Option, None, if◌then◌else◌}
use Rattle.m386_base.specs.declared.ask.Ask.{Ask}
use Rattle.m386_base.specs.declared.ask.Cycle.{Cycle}
use Rattle.m386_base.specs.declared.fault.Fault.{Fault}
use Rattle.m386_base.specs.Bus.{cycle_of}
use Rattle.m386_base.specs.Laws.{Turns}
use Rattle.m386_base.specs.Phrase.{Phrase, Attempt, Done, Asks, Begins as BeginsWork}
use Rattle.m386_memory.specs.Contents.{Contents}
use Rattle.m386_memory.specs.History.{Consistent, Unsplit}
use Rattle.m386_image.specs.Format.{IsValid}
use Rattle.m386_image.specs.Memory.{byte_of_image}
use Rattle.m386_access.specs.Ordinary.{is_nested}
use Rattle.m386_stages.specs.Stages.{Stage, EndsIn, on, begins, task_of}
use Rattle.m386_book.specs.Book.{book_after}
use Rattle.m386_book.specs.Verdict.{NoneStatic, AreClean}
use Rattle.m386_exclusion.specs.Exclusion.{Exclusive}
use Rattle.m386_exclusion.specs.Held.{number_of}
use Rattle.m386_exclusion.specs.Invariant.{Invariant}
use Rattle.m386_exclusion.specs.World.{Setting, IsClean, gdt_reg}
use Rattle.m386_state.specs.declared.proc.Proc.{Proc}

-- ---- the law of a step

-- Where a step that began in p may end: in a state that its stage says, with the GDT register of before, but for a cycle of LGDT.
pub record Stands (p : Proc) (g : Stage) (after : Proc) : Type 0 where
  pub phase : EndsIn after g.phase
  pub gdtr : (after.gdtr ≡ p.gdtr) ⊎ (g.lgdt ≡ true)

-- a request is put before a step
abbrev pub asked : Proc → Option ℕ → Proc
asked p request = record p { request = request }

-- a step that ends in a fault leaves no state
abbrev pub NoEnd : Stage → Fault → Type 0
NoEnd g fault = Unit {0}

-- The law of a step: whatever is answered, each of its cycles is a turn from one stage to another, and it ends in a state that its stage
-- says.
-- Own choice: docs/DECISIONS.md, "Exclusion"
abbrev pub StepLaw : (Proc → Phrase Proc) → Type 0
StepLaw step = (p : Proc) → Turns (on p.gdtr) (Stands p) NoEnd (begins p) (step p)

-- ---- where cycles lead a processor

-- where a processor is: between steps, or within one that began in a state, with this left to say
pub data Place : Type 0 where
  Rest : Proc → Place
  Amid : Proc → Phrase Proc → Place

-- Where these cycles, the newest first, may lead a processor. A step begins in the state that the last one left, but for a request.
pub data Reaches (step : Proc → Phrase Proc) (start : Proc) : List Ask → Place → Type 0 where
  Begins : Reaches step start [] (Rest start)
  Enters : {ts : List Ask} {s : Proc} → Reaches step start ts (Rest s) → (request : Option ℕ) → Reaches step start ts (Amid (asked s request) (step (asked s request)))
  Says : {ts : List Ask} {s : Proc} {q : Ask} {k : ℕ → Phrase Proc} → (t : Ask) → (v : ℕ) → t ≡ cycle_of q v → Reaches step start ts (Amid s (Asks q k)) → Reaches step start (t ∷ ts) (Amid s (k v))
  Passes : {ts : List Ask} {s : Proc} {m : Attempt} {t : Phrase Proc} → Reaches step start ts (Amid s (BeginsWork m t)) → Reaches step start ts (Amid s t)
  Leaves : {ts : List Ask} {s after : Proc} → Reaches step start ts (Amid s (Done after)) → Reaches step start ts (Rest after)

-- the cycles of one processor, the newest first
unfoldable pub of : ℕ → List Cycle → List Ask
of p [] = []
of p (x ∷ older) = if x.cpu == p then x.ask ∷ of p older else of p older

unfoldable pub AreBelow : ℕ → List Cycle → Type 0
AreBelow n [] = Unit {0}
AreBelow n (x ∷ older) = (x.cpu < n) × AreBelow n older

-- A history of n processors, the newest cycle first: lawful, and the cycles of each processor lead it to a place.
pub record IsWalked (first : Contents) (n : ℕ) (step : Proc → Phrase Proc) (start : ℕ → Proc) (older : List Cycle) (place : ℕ → Place) : Type 0 where
  pub below : AreBelow n older
  pub consistent : Consistent first older
  pub unsplit : Unsplit older
  pub walks : (p : ℕ) → p < n → Reaches step (start p) (of p older) (place p)

-- a start holds no task, has NT clear, and the image's GDT register
pub record IsStart (I : Setting) (s : Proc) : Type 0 where
  pub none : task_of s.tr ≡ None
  pub nested : is_nested s ≡ false
  pub gdtr : s.gdtr ≡ gdt_reg I

-- the contents that a machine of the image begins with
pub record BeginsAs (I : Setting) : Type 0 where
  pub size : length I.first.memory ≡ I.image.memory
  pub bytes : (a : ℕ) → a < I.image.memory → slice_index I.first.memory a ≡ byte_of_image I.image a

-- ---- the invariant over whole histories

-- what the rules 6 to 9 give of each of these cycles, the newest first
unfoldable pub AreJudged : Setting → List Cycle → Type 0
AreJudged I [] = Unit {0}
AreJudged I (x ∷ older) = IsClean I x.cpu (book_after I.image older) x.ask × AreJudged I older

-- a processor's stage is one from which its place goes on
abbrev pub Settles : Setting → Stage → Place → Type 0
Settles I g (Rest s) = (g ≡ begins s) × (s.gdtr ≡ gdt_reg I)
Settles I g (Amid s t) = (s.gdtr ≡ gdt_reg I) × (g.lgdt ≡ false) × Turns (on (gdt_reg I)) (Stands s) NoEnd g t

-- stages from which each place goes on, and of which the invariant holds
pub record Settled (I : Setting) (n : ℕ) (older : List Cycle) (place : ℕ → Place) : Type 0 where
  pub at : ℕ → Stage
  pub settles : (p : ℕ) → p < n → Settles I (at p) (place p)
  pub keeps : Invariant I n (record { cycles = older; at = at })

-- ---- the law

-- After a history: exclusion, and a processor between steps holds the task that its TR names, or none where TR is unusable.
pub record IsExcluded (I : Setting) (n : ℕ) (older : List Cycle) (place : ℕ → Place) : Type 0 where
  pub exclusive : Exclusive I n older
  pub named : (p : ℕ) (s : Proc) → p < n → place p ≡ Rest s → (book_after I.image older).held p ≡ number_of (task_of s.tr)

-- The law of exclusion, of a machine whose steps keep the law of a step, in the midst of any number of switches: a history of it excludes
-- where no rule of the image and no rule of these cycles fails.
-- Own choice: docs/DECISIONS.md, "Exclusion"
abbrev pub Exclusion : Type 0
Exclusion = (step : Proc → Phrase Proc) → StepLaw step
    → (I : Setting) (n : ℕ) (start : ℕ → Proc) → IsValid I.image → BeginsAs I → ((p : ℕ) → IsStart I (start p))
    → (older : List Cycle) (place : ℕ → Place) → IsWalked I.first n step start older place → NoneStatic I.image → AreClean I.image older
    → IsExcluded I n older place

-- The same of each front of a history: only its own cycles are to be clean, and not the newer ones behind it.
abbrev pub ExclusionOfFronts : Type 0
ExclusionOfFronts = (step : Proc → Phrase Proc) → StepLaw step
    → (I : Setting) (n : ℕ) (start : ℕ → Proc) → IsValid I.image → BeginsAs I → ((p : ℕ) → IsStart I (start p))
    → (newer older : List Cycle) (place : ℕ → Place) → IsWalked I.first n step start (newer ++ older) place → NoneStatic I.image → AreClean I.image older
    → Exclusive I n older
