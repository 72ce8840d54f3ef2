use Rattle.m386_core.proofs.OneRun.{one_history, same_ends}
use Rattle.m386_core.proofs.laws.one_run_for_one_order.Goals as goal

pub returns-clause-history : goal.returns-clause-history
returns-clause-history c = one_history

pub returns-clause-ends : goal.returns-clause-ends
returns-clause-ends c = same_ends
