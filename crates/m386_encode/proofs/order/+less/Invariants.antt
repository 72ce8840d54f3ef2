-- Bytes are compared from the first on.
use Rattle.std.proofs.Common.{length}
use Rattle.m386_encode.proofs.order.+less.Given as goal

abbrev pub decreases-less : goal.decreases-less
decreases-less l = length l.bytes.now
