use Rattle.m386_base.proofs.Bounds.{sound_never}
use Rattle.m386_step.specs.Step.{step_phrase}
use Rattle.m386_step.proofs.Short.{sound_step}
use Rattle.m386_step.proofs.laws.step_ends_in_no_fault.Goals as goal

pub returns : goal.returns
returns c = λ p fault ts rest. sound_never (step_phrase p) fault ts rest (sound_step p)
