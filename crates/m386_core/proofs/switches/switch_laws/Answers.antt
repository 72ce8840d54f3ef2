use Rattle.m386_core.proofs.Attempts.{run_switches_end}
use Rattle.m386_core.proofs.switches.switch_laws.Goals as goal

pub returns-clause-ends : goal.returns-clause-ends
returns-clause-ends c I count n H E run = run_switches_end I count n H E run
