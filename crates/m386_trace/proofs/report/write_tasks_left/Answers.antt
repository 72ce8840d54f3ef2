use Rattle.m386_trace.proofs.Tasks.{store_left}
use Rattle.m386_trace.proofs.report.write_tasks_left.Goals as goal

pub returns-clause-ok : goal.returns-clause-ok
returns-clause-ok g c = rw (store_left c.store.result.now c.args.log.now.first c.args.log.now.cycles c.store.ensures.bytes) at c.write_tasks.ensures.ok

pub returns-clause-err : goal.returns-clause-err
returns-clause-err g c = rw (store_left c.store.result.now c.args.log.now.first c.args.log.now.cycles c.store.ensures.bytes) at c.write_tasks.ensures.err
