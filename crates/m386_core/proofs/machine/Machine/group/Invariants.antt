use Rattle.std.proofs.Common.{◌-◌, ◌*◌, length}
use Rattle.m386_core.proofs.Groups.{GroupSoFar}
use Rattle.m386_core.proofs.machine.Machine.group.Given as goal

abbrev pub invariant-loop-self : goal.invariant-loop-self
invariant-loop-self l = GroupSoFar l.cpu l.fn.self l.self

abbrev pub decreases-loop-self : goal.decreases-loop-self
decreases-loop-self l = 192 * l.self.budget * l.self.cpus - length l.self.log.cycles
