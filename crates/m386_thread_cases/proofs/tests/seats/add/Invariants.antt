use Rattle.std.proofs.Common.{◌≡◌, false}
use Rattle.m386_thread_cases.proofs.tests.seats.add.Given as goal

abbrev pub invariant-loop : goal.invariant-loop
invariant-loop g l = record {
  free : (g.B.Bus.view l.bus).kept ≡ false;
  origin : (g.B.Bus.view l.bus).origin ≡ (g.B.Bus.view l.initial.bus).origin;
}
