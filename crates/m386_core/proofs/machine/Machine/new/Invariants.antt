use Rattle.m386_core.proofs.Beginning.{BegunSoFar}
use Rattle.m386_core.proofs.machine.Machine.new.Given as goal

abbrev pub invariant-loop-cpu : goal.invariant-loop-cpu
invariant-loop-cpu l = BegunSoFar l.image l.steps l.ends.items l.unfinished.items l.cpu
