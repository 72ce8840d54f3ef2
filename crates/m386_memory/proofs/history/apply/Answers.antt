use Rattle.m386_base.specs.Bytes.{bytes_of}
use Rattle.m386_memory.proofs.history.apply.Goals as goal

pub returns-then-ask : goal.returns-then-ask
unfolding bytes_of
returns-then-ask c = rw c.if-ask.true c.write.ensures
