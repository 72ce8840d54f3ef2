use Rattle.std.proofs.Common.{length, ◌-◌, ◌≤◌, take}
use Rattle.m386_edge.specs.Edge.{Grows}
use Rattle.m386_edge.proofs.writing.write_whole.Given as goal

abbrev pub invariant-loop-done : goal.invariant-loop-done
invariant-loop-done g l = record {
  within : l.done ≤ length l.bytes;
  grows : Grows (g.K.Sink.held l.initial.out) (g.K.Sink.held l.out) (take l.done l.bytes);
  never_falls : g.K.Sink.faults l.initial.out ≤ g.K.Sink.faults l.out;
}

abbrev pub decreases-loop-done : goal.decreases-loop-done
decreases-loop-done g l = length l.bytes - l.done
