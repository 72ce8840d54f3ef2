use Rattle.m386_base.proofs.Bounds.{at_most_whole}
use Rattle.m386_step.specs.Step.{step_phrase}
use Rattle.m386_step.proofs.Short.{short_step}
use Rattle.m386_step.proofs.laws.step_is_short.Goals as goal

pub returns-clause-asks : goal.returns-clause-asks
returns-clause-asks c = short_step

pub returns-clause-cycles : goal.returns-clause-cycles
returns-clause-cycles c = λ p after ts. at_most_whole 192 (step_phrase p) after ts (short_step p)
