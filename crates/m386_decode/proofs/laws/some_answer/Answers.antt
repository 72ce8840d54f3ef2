-- A byte behind bytes that want more ends a spelling, is refused, or more are wanted again.
use Rattle.m386_decode.proofs.Some.{some_answer}
use Rattle.m386_decode.proofs.laws.some_answer.Goals as goal

pub returns : goal.returns
returns c bytes size are = some_answer bytes size are
