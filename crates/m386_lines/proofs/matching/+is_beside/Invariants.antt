-- The list that is left grows shorter.
use Rattle.std.proofs.Common.{length}
use Rattle.m386_lines.proofs.matching.+is_beside.Given as goal

abbrev pub decreases-is_beside : goal.decreases-is_beside
decreases-is_beside l = length l.operands.now
