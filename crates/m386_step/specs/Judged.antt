-- The cycles of a step that were answered listed values.
use Rattle.std.specs.Prelude.{◌≡◌, ℕ, List, length}
use Rattle.m386_base.specs.declared.ask.Ask.{Ask}
use Rattle.m386_base.specs.Phrase.{Judgement}
use Rattle.m386_base.specs.Replay.{AreTold}
use Rattle.m386_state.specs.declared.proc.Proc.{Proc}
use Rattle.m386_step.specs.Step.{Follow}

-- the first n of these values are the answers to n cycles that are judged so
abbrev pub AreJudged : Proc → List ℕ → ℕ → Judgement Proc → Type 0
AreJudged p values n verdict = (ts : List Ask) × AreTold ts values × (length ts ≡ n) × (Follow p ts ≡ verdict)
