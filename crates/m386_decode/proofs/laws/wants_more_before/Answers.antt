-- No spelling ends before the last byte, and no byte before it is refused.
use Rattle.m386_decode.proofs.Exact.{wants_more_before}
use Rattle.m386_decode.proofs.laws.wants_more_before.Goals as goal

pub returns : goal.returns
returns c front byte rest answer s = wants_more_before front byte rest answer s
