use Rattle.m386_core.proofs.Runs.{ListedRun}
use Rattle.m386_core.proofs.machine.Machine.run_listed.Given as goal

abbrev pub invariant-loop-cpu : goal.invariant-loop-cpu
invariant-loop-cpu l = ListedRun l.members l.fn.self l.self l.cpu-index
