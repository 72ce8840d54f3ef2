use Rattle.m386_base.specs.Bus.{cycle_of}
use Rattle.m386_base.specs.Bytes.{bytes_of}
use Rattle.m386_memory.proofs.history.answer.Goals as goal

pub returns-else-ask-clause-read : goal.returns-else-ask-clause-read
unfolding cycle_of bytes_of
returns-else-ask-clause-read c = λ w. rw w c.read.ensures.bytes
