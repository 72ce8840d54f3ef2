-- Exclusion in a run of the machine.
use Rattle.std.specs.Prelude.{◌≡◌, ℕ, ◌<◌, ◌≤◌, List, ◌++◌}
use Rattle.m386_base.specs.declared.ask.Cycle.{Cycle}
use Rattle.m386_image.specs.declared.image.Image.{Image}
use Rattle.m386_memory.specs.Contents.{Contents}
use Rattle.m386_memory.specs.History.{cycles_of, past}
use Rattle.m386_book.specs.Book.{book_after}
use Rattle.m386_book.specs.Verdict.{NoneStatic, AreClean}
use Rattle.m386_book.specs.declared.verdict.Verdict.{Verdict}
use Rattle.m386_book.specs.declared.verdict.Verdict.TheVariants.{Clean, Static, At}
use Rattle.m386_stages.specs.Stages.{task_of}
use Rattle.m386_state.specs.declared.proc.Proc.{Proc}
use Rattle.m386_step.specs.Run.{start_of, plan_of}
use Rattle.m386_step.specs.Steps.{Steps}
use Rattle.m386_exclusion.specs.Exclusion.{Exclusive}
use Rattle.m386_exclusion.specs.Held.{number_of}
use Rattle.m386_exclusion.specs.World.{Setting}

abbrev pub setting : Image → Contents → Setting
setting image first = record { image = image; first = first }

-- After the cycles G of c processors no task is held by two, none is both held and waiting, and none waits twice; each of these is busy;
-- and a processor whose cycles are a number of whole steps holds the task that its TR names, or none where TR is unusable.
-- Own choice: docs/DECISIONS.md, "Exclusion"
pub record ExcludesAfter (image : Image) (first : Contents) (c : ℕ) (G : List Cycle) : Type 0 where
  pub exclusive : Exclusive (setting image first) c (past G)
  pub named : (p k : ℕ) (s : Proc) → p < c → Steps k (plan_of image p) 0 (start_of image p) (cycles_of p G) s → (book_after image (past G)).held p ≡ number_of (task_of s.tr)

-- Each front of a history excludes as long as no rule of the image and none of the front's own cycles fails.
-- Own choice: docs/DECISIONS.md, "Exclusion"
pub record ExcludesWhileClean (image : Image) (first : Contents) (c : ℕ) (H : List Cycle) : Type 0 where
  pub fronts : (G K : List Cycle) → H ≡ G ++ K → NoneStatic image → AreClean image (past G) → ExcludesAfter image first c G

-- so many cycles are a front that lies before the first failure which a verdict names
abbrev pub IsBeforeFailure : Verdict → ℕ → Type 0
IsBeforeFailure Clean n = Unit {0}
IsBeforeFailure (Static rule) n = ⊥
IsBeforeFailure (At rule index) n = n ≤ index
