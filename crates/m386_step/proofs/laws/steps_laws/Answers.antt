use Rattle.m386_step.proofs.WholeSteps.{whole_step, no_front, none_in_shutdown, one_end}
use Rattle.m386_step.proofs.laws.steps_laws.Goals as goal

pub returns-clause-whole : goal.returns-clause-whole
returns-clause-whole c = whole_step

pub returns-clause-front : goal.returns-clause-front
returns-clause-front c = no_front

pub returns-clause-shutdown : goal.returns-clause-shutdown
returns-clause-shutdown c = none_in_shutdown

pub returns-clause-one_end : goal.returns-clause-one_end
returns-clause-one_end c = one_end
