use Rattle.std.proofs.Common.{◌≤◌}
use Rattle.m386_base.specs.declared.ask.Space.TheVariants.{Memory}
use Rattle.m386_edge.specs.Edge.{Grows}
use Rattle.m386_memory.specs.Contents.{byte_in}
use Rattle.m386_trace.specs.Tasks.{tasks_below}
use Rattle.m386_trace.proofs.report.write_tasks.Given as goal

abbrev pub invariant-loop-before : goal.invariant-loop-before
invariant-loop-before g l = record {
  grows : Grows (g.K.Sink.held l.initial.out) (g.K.Sink.held l.out) (tasks_below (byte_in l.store Memory) l.table l.before);
  never_falls : g.K.Sink.faults l.initial.out ≤ g.K.Sink.faults l.out;
}
