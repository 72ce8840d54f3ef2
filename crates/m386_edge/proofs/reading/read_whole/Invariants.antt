use Rattle.std.proofs.Common.{◌≤◌, ◌+◌, ◌-◌, length}
use Rattle.m386_edge.specs.Edge.{Gave}
use Rattle.m386_edge.proofs.reading.read_whole.Given as goal

abbrev pub invariant-loop-buf : goal.invariant-loop-buf
invariant-loop-buf g l = record {
  within : length l.bytes.items ≤ l.limit + 1;
  gave : Gave (g.S.Source.left l.initial.source) (g.S.Source.left l.source) l.bytes.items;
  never_falls : g.S.Source.faults l.initial.source ≤ g.S.Source.faults l.source;
}

abbrev pub decreases-loop-buf : goal.decreases-loop-buf
decreases-loop-buf g l = l.limit + 1 - length l.bytes.items
