use Rattle.m386_image.proofs.Judging.{Started}
use Rattle.m386_image.proofs.reading.read_starts.Given as goal

abbrev pub invariant-loop-cpu : goal.invariant-loop-cpu
invariant-loop-cpu l = Started l.bytes l.start-items l.cpu
