use Rattle.std.proofs.Common.{◌≤◌, take}
use Rattle.m386_edge.specs.Edge.{Grows}
use Rattle.m386_trace.specs.Report.{procs_text}
use Rattle.m386_trace.proofs.report.write_procs.Given as goal

abbrev pub invariant-loop-cpu : goal.invariant-loop-cpu
invariant-loop-cpu g l = record {
  grows : Grows (g.K.Sink.held l.initial.out) (g.K.Sink.held l.out) (procs_text 0 (take l.cpu l.procs));
  never_falls : g.K.Sink.faults l.initial.out ≤ g.K.Sink.faults l.out;
}
