-- What is found in a run, put together.
use Rattle.std.proofs.Common.{◌≡◌, ℕ, List, subst}
use Rattle.std.specs.List.{Any}
use Rattle.m386_base.specs.declared.ask.Cycle.{Cycle}
use Rattle.m386_book.specs.Verdict.{IsFirstFailure}
use Rattle.m386_book.specs.declared.verdict.Verdict.{Verdict}
use Rattle.m386_book.specs.declared.verdict.Verdict.TheVariants.{Clean}
use Rattle.m386_exclusion_runs.proofs.Runs.{run_excludes}
use Rattle.m386_image.specs.Format.{IsValid}
use Rattle.m386_image.specs.declared.image.Image.{Image}
use Rattle.m386_memory.specs.declared.ended.ProcEnd.{ProcEnd}
use Rattle.m386_state.specs.declared.proc.Proc.{Proc}
use Rattle.m386_step.specs.Run.{Run}
use Rattle.m386_exclusion_cases.specs.CleanRuns.{ClaimsByJmp, CleanRunWithASwitch}

-- a clean run with a claim of a JMP in it, and the law of exclusion on it
pub clean_run : (image : Image) (steps : ℕ) (history cycles : List Cycle) (ends : List (ProcEnd Proc)) (verdict : Verdict) → IsValid image → Run image 2 steps history ends → cycles ≡ history → IsFirstFailure image cycles verdict → verdict ≡ Clean → Any ClaimsByJmp cycles → CleanRunWithASwitch image steps
clean_run image steps history cycles ends verdict valid run same first is switch = record {
  history = history;
  ends = ends;
  valid = valid;
  run = run;
  clean = subst (IsFirstFailure image history) is (subst (λ h. IsFirstFailure image h verdict) same first);
  switch = subst (Any ClaimsByJmp) same switch;
  exclusion = run_excludes image 2 steps history ends valid run;
}
