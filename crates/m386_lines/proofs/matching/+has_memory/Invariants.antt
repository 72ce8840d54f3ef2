-- The list that is left grows shorter.
use Rattle.std.proofs.Common.{length}
use Rattle.m386_lines.proofs.matching.+has_memory.Given as goal

abbrev pub decreases-has_memory : goal.decreases-has_memory
decreases-has_memory l = length l.args.now
