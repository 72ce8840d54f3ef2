-- Bytes with an answer have a spelling, or begin none, or are fifteen.
use Rattle.m386_decode.proofs.Exact.{answered_wants_none}
use Rattle.m386_decode.proofs.laws.answered_wants_none.Goals as goal

pub returns : goal.returns
returns c bytes rest answer s wants few = answered_wants_none bytes rest answer s wants few
