-- What bytes read as is one operation.
use Rattle.m386_opmap.proofs.Laws.{one_operation}
use Rattle.m386_opmap.proofs.reading.one_operation.Goals as goal

pub returns : goal.returns
returns c op other bytes = one_operation op other bytes
