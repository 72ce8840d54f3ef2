-- The list that is left grows shorter.
use Rattle.std.proofs.Common.{length}
use Rattle.m386_asm.proofs.kinds.+first_of.Given as goal

abbrev pub decreases-first_of : goal.decreases-first_of
decreases-first_of l = length l.tests.now
