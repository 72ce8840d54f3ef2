-- The number of at most so many bytes is small.
use Rattle.std.proofs.Common.{length}
use Rattle.m386_opmap.proofs.Numbers.{front_bound}
use Rattle.m386_opmap.proofs.operand.number_at.Goals as goal

pub returns-clause-bound : goal.returns-clause-bound
returns-clause-bound c =
    front_bound (length c.bytes_at.result.now) c.args.count c.number_of.result c.bytes_at.ensures.few c.number_of.ensures.bound
