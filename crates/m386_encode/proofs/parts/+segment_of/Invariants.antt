-- Operands are looked at from the first on.
use Rattle.std.proofs.Common.{length}
use Rattle.m386_encode.proofs.parts.+segment_of.Given as goal

abbrev pub decreases-segment_of : goal.decreases-segment_of
decreases-segment_of l = length l.args.now
