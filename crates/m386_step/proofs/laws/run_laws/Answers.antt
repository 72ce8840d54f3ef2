use Rattle.m386_step.proofs.Runs.{run_of_no_steps, cycle_of_no_steps, performs_none, performs_some}
use Rattle.m386_step.proofs.laws.run_laws.Goals as goal

pub returns-clause-empty : goal.returns-clause-empty
returns-clause-empty c = run_of_no_steps

pub returns-clause-no_run : goal.returns-clause-no_run
returns-clause-no_run c = cycle_of_no_steps

pub returns-clause-none : goal.returns-clause-none
returns-clause-none c = performs_none

pub returns-clause-some : goal.returns-clause-some
returns-clause-some c = performs_some
