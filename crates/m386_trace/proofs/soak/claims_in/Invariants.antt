use Rattle.std.proofs.Common.{◌≡◌, ◌≤◌, take}
use Rattle.m386_trace.specs.Soak.{claims_in}
use Rattle.m386_trace.proofs.soak.claims_in.Given as goal

abbrev pub invariant-loop-cycle : goal.invariant-loop-cycle
invariant-loop-cycle l = record {
  counted : l.claims ≡ claims_in (take l.cycle-index l.cycles);
  within : l.claims ≤ l.cycle-index;
}
