use Rattle.m386_step.proofs.Keeping.{keeps_step}
use Rattle.m386_step.proofs.laws.step_keeps_the_task.Goals as goal

pub returns : goal.returns
returns c = keeps_step
