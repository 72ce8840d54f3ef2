-- A number is read from the last byte on.
use Rattle.std.proofs.Common.{length}
use Rattle.m386_opmap.proofs.operand.+number_of.Given as goal

abbrev pub decreases-number_of : goal.decreases-number_of
decreases-number_of l = length l.bytes.now
