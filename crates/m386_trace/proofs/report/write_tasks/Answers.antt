use Rattle.std.proofs.Common.{sym, arith, rules}
use Rattle.m386_edge.proofs.Edge.{grown-nil}
use Rattle.m386_trace.specs.Tasks.{described, tasks_below, tasks_text}
use Rattle.m386_trace.proofs.Tasks.{tasks_front, tasks_more}
use Rattle.m386_trace.proofs.report.write_tasks.Goals as goal

pub loop-before-init : goal.loop-before-init
unfolding tasks_below
loop-before-init g c = record { grows = sym (grown-nil _); never_falls = omega arith }

pub returns-in_err-write_task-clause-err : goal.returns-in_err-write_task-clause-err
unfolding tasks_text
returns-in_err-write_task-clause-err g c =
    let result = tasks_front _ _ _ _ c.args.table c.loop-before.before (described c.args.table) (omega arith) c.loop-before.invariant.grows c.in_err-write_task.ensures.err in search rules

pub loop-before-preserved : goal.loop-before-preserved
loop-before-preserved g c = record {
  grows = tasks_more _ _ _ _ c.args.table c.loop-before.before c.loop-before.invariant.grows c.in_ok-write_task.ensures.ok;
  never_falls = omega arith;
}
