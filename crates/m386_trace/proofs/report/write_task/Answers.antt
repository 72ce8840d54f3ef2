use Rattle.std.proofs.Common.{sym}
use Rattle.m386_edge.proofs.Edge.{grown-nil}
use Rattle.m386_trace.proofs.Tasks.{no_line}
use Rattle.m386_trace.proofs.report.write_task.Goals as goal

pub returns-in-None-clause-ok : goal.returns-in-None-clause-ok
returns-in-None-clause-ok g c = rw (no_line _ _ _ (c.task_line.ensures.none.0 c.in-None.is)) (sym (grown-nil _))
