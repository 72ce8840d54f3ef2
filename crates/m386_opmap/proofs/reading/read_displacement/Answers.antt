-- A displacement that isn't whole wants the bytes behind it too.
use Rattle.m386_opmap.proofs.Sure.{displaced_sure}
use Rattle.m386_opmap.proofs.reading.read_displacement.Goals as goal

pub returns-then-rest-len-clause-sure : goal.returns-then-rest-len-clause-sure
returns-then-rest-len-clause-sure c = λ _. displaced_sure c.args.row.now c.args.fields.now c.args.address c.args.len c.args.at c.args.rest.now c.tail_len.result c.tail_len.ensures.exact c.if-rest-len.true
