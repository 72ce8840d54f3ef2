use Rattle.m386_exclusion_runs.proofs.Verdicts.{front_excludes}
use Rattle.m386_exclusion_runs.proofs.laws.a_run_excludes_before_its_first_failure.Goals as goal

pub returns : goal.returns
returns c = front_excludes
