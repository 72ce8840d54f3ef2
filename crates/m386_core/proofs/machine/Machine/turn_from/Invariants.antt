use Rattle.m386_core.specs.Running.{gap}
use Rattle.m386_core.proofs.Turning.{TurnSoFar}
use Rattle.m386_core.proofs.machine.Machine.turn_from.Given as goal

abbrev pub invariant-loop-self : goal.invariant-loop-self
invariant-loop-self l = TurnSoFar l.first l.fn.self l.self l.number

abbrev pub decreases-loop-self : goal.decreases-loop-self
decreases-loop-self l = gap l.self.cpus l.number l.due
