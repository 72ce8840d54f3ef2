use Rattle.m386_exclusion_runs.proofs.Runs.{run_excludes}
use Rattle.m386_exclusion_runs.proofs.laws.no_two_processors_hold_one_task_in_a_run.Goals as goal

pub returns : goal.returns
returns c = run_excludes
