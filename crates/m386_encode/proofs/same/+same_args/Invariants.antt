-- Operands are compared from the first on.
use Rattle.std.proofs.Common.{length}
use Rattle.m386_encode.proofs.same.+same_args.Given as goal

abbrev pub decreases-same_args : goal.decreases-same_args
decreases-same_args l = length l.args.now
