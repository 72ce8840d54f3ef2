use Rattle.std.proofs.Common.{◌≤◌, take}
use Rattle.std.specs.List.{flat_map}
use Rattle.m386_edge.specs.Edge.{Grows}
use Rattle.m386_trace.specs.Report.{cycle_text}
use Rattle.m386_trace.proofs.report.write_cycles.Given as goal

abbrev pub invariant-loop-cycle : goal.invariant-loop-cycle
invariant-loop-cycle g l = record {
  grows : Grows (g.K.Sink.held l.initial.out) (g.K.Sink.held l.out) (flat_map cycle_text (take l.cycle-index l.cycles));
  never_falls : g.K.Sink.faults l.initial.out ≤ g.K.Sink.faults l.out;
}
