use Rattle.std.proofs.Common.{ap, not}
use Rattle.m386_alu.proofs.Carries.{odd_at_four}
use Rattle.m386_alu.proofs.sums.crosses_nibble.Goals as goal

pub returns : goal.returns
returns c = ap not (odd_at_four c.args.a c.args.b c.args.value)
