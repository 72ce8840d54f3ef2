-- Spellings have one end, and a refused byte one place.
use Rattle.m386_decode.proofs.Exact.{one_answer}
use Rattle.m386_decode.proofs.laws.one_answer.Goals as goal

pub returns : goal.returns
returns c bytes rest answer other s t = one_answer bytes rest answer other s t
