use Rattle.m386_exclusion_runs.proofs.Runs.{run_excludes}
use Rattle.m386_core.proofs.exclusion.exclusion_laws.Goals as goal

pub returns : goal.returns
returns c = run_excludes
