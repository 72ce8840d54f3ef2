-- The law of a step, and what it says of whole cycles.
use Rattle.m386_step.proofs.StepAttempts.{each_step_ends, attempts_end}
use Rattle.m386_step.proofs.laws.each_attempt_of_a_step_ends.Goals as goal

pub returns-clause-each : goal.returns-clause-each
returns-clause-each c = each_step_ends

pub returns-clause-whole : goal.returns-clause-whole
returns-clause-whole c = attempts_end
