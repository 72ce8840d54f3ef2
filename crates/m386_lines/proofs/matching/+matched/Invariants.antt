-- The list that is left grows shorter.
use Rattle.std.proofs.Common.{length}
use Rattle.m386_lines.proofs.matching.+matched.Given as goal

abbrev pub decreases-matched : goal.decreases-matched
decreases-matched l = length l.operands.now
