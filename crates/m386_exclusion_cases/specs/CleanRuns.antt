-- What a clean run of two processors with a task switch in it is.
use Rattle.std.specs.Prelude.{◌≡◌, ℕ, List, true}
use Rattle.std.specs.List.{Any}
use Rattle.m386_base.specs.declared.ask.Cycle.{Cycle}
use Rattle.m386_base.specs.declared.ask.Role.TheVariants.{ClaimJmp}
use Rattle.m386_book.specs.Verdict.{IsFirstFailure}
use Rattle.m386_book.specs.declared.verdict.Verdict.TheVariants.{Clean}
use Rattle.m386_exclusion_runs.specs.Runs.{ExcludesWhileClean}
use Rattle.m386_image.specs.Format.{IsValid}
use Rattle.m386_image.specs.declared.image.Image.{Image}
use Rattle.m386_memory.specs.declared.ended.ProcEnd.{ProcEnd}
use Rattle.m386_state.specs.declared.proc.Proc.{Proc}
use Rattle.m386_step.specs.Run.{Run}

-- A cycle claims a task for a JMP: it writes the access byte of the new task's descriptor, busy.
-- Source: Intel 80386 PRM 7.5; own choice: docs/DECISIONS.md, "The book"
pub record ClaimsByJmp (c : Cycle) : Type 0 where
  pub role : c.ask.role ≡ ClaimJmp
  pub write : c.ask.write ≡ true

-- Some run of two processors of a valid image keeps the nine rules, one of its cycles claims a task for a JMP, and no task is held twice in it.
-- Own choice: docs/DECISIONS.md, "Exclusion"
pub record CleanRunWithASwitch (image : Image) (steps : ℕ) : Type 0 where
  pub history : List Cycle
  pub ends : List (ProcEnd Proc)
  pub valid : IsValid image
  pub run : Run image 2 steps history ends
  pub clean : IsFirstFailure image history Clean
  pub switch : Any ClaimsByJmp history
  pub exclusion : ExcludesWhileClean image run.first 2 history
