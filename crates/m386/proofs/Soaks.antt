-- What the run of the image of a number comes to.
use Rattle.std.proofs.Common.{◌≡◌, ℕ, List, ap, subst, ◌∙◌}
use Rattle.m386_base.specs.declared.ask.Cycle.{Cycle}
use Rattle.m386_book.specs.Verdict.{IsFirstFailure}
use Rattle.m386_book.specs.declared.verdict.Verdict.{Verdict}
use Rattle.m386_core.specs.Order.{InOrder}
use Rattle.m386_core.specs.declared.order.Order.TheVariants.{Seed}
use Rattle.m386_gen.specs.Generated.{generated}
use Rattle.m386_image.specs.declared.image.Image.{Image}
use Rattle.m386_memory.specs.declared.ended.ProcEnd.{ProcEnd}
use Rattle.m386_state.specs.declared.proc.Proc.{Proc}
use Rattle.m386_step.specs.Run.{Run}
use Rattle.m386_trace.specs.Soak.{soak_text, tasks_of}
use Rattle.m386.specs.Top.{IsSoakText, soak_steps}

pub text_of_soak : (number : ℕ) (image : Image) (tasks : ℕ) (history cycles : List Cycle) (ends : List (ProcEnd Proc)) (verdict : Verdict) (line : List ℕ)
    → image ≡ generated number → Run image image.cpus soak_steps history ends → InOrder image image.cpus soak_steps (Seed number) history → IsFirstFailure image history verdict
    → tasks ≡ tasks_of (generated number) → cycles ≡ history → line ≡ soak_text number image.cpus tasks cycles verdict → IsSoakText number line
text_of_soak number image tasks history cycles ends verdict line e run ordered failure t same l = record {
  history = history;
  ends = ends;
  run = subst (λ (i : Image). Run i i.cpus soak_steps history ends) e run;
  in_order = subst (λ (i : Image). InOrder i i.cpus soak_steps (Seed number) history) e ordered;
  verdict = verdict;
  first_failure = subst (λ (i : Image). IsFirstFailure i history verdict) e failure;
  text_is =
      l ∙ ap (λ (i : Image). soak_text number i.cpus tasks cycles verdict) e
      ∙ ap (λ (n : ℕ). soak_text number (generated number).cpus n cycles verdict) t
      ∙ ap (λ (h : List Cycle). soak_text number (generated number).cpus (tasks_of (generated number)) h verdict) same;
}
