use Rattle.m386_memory.proofs.NoHistory.{last_read}
use Rattle.m386_memory.proofs.laws.history_laws.Goals as goal

pub returns-clause-last : goal.returns-clause-last
returns-clause-last c = last_read
