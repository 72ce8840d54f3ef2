use Rattle.m386_base.specs.Bytes.{bytes_of}
use Rattle.m386_memory.proofs.Groups.{group_of-zeros}
use Rattle.m386_memory.proofs.fixed.reach.Goals as goal

pub returns-in-Port-default-clause-read : goal.returns-in-Port-default-clause-read
returns-in-Port-default-clause-read c = λ w. rw c.in-Port-default.is-0 (group_of-zeros c.args.ask.addr c.args.ask.enables)

pub returns-in-Memory-true-clause-bytes : goal.returns-in-Memory-true-clause-bytes
unfolding bytes_of
returns-in-Memory-true-clause-bytes c = rw (c.in-Memory-true.is-0, c.in-Memory-true.is-1) c.write.ensures
