use Rattle.std.proofs.Common.{◌-◌, ◌*◌, length}
use Rattle.m386_core.proofs.Runs.{DrawnRun}
use Rattle.m386_core.proofs.machine.Machine.run_drawn.Given as goal

abbrev pub invariant-loop-due : goal.invariant-loop-due
invariant-loop-due l = DrawnRun l.seed l.fn.self l.self l.x

abbrev pub decreases-loop-due : goal.decreases-loop-due
decreases-loop-due l = 192 * l.self.budget * l.self.cpus - length l.self.log.cycles
