use Rattle.m386_step.specs.Step.{step_phrase}
use Rattle.m386_step.proofs.Anew.{differ_whole, differ_wants}
use Rattle.m386_step.proofs.Once.{once_step}
use Rattle.m386_step.proofs.laws.no_aligned_group_is_fetched_twice.Goals as goal

pub returns-clause-asks : goal.returns-clause-asks
returns-clause-asks c = once_step

pub returns-clause-whole : goal.returns-clause-whole
returns-clause-whole c = λ p after ts. differ_whole (step_phrase p) after ts (once_step p)

pub returns-clause-wants : goal.returns-clause-wants
returns-clause-wants c = λ p wanted ts. differ_wants (step_phrase p) wanted ts (once_step p)
