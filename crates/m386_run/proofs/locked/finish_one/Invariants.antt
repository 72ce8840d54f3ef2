use Rattle.std.proofs.Common.{ℕ, ◌-◌, ◌^◌}
use Rattle.m386_turns.specs.Turns.{Stays}
use Rattle.m386_run.proofs.locked.finish_one.Given as goal

abbrev pub invariant-loop-turns : goal.invariant-loop-turns
invariant-loop-turns g l = record {
  stays : Stays g.T.Turns.count g.T.Turns.done g.T.Turns.made l.initial.turns l.turns;
  free : (k : ℕ) → ¬ g.T.Turns.amid l.turns k;
}

abbrev pub decreases-loop-turns : goal.decreases-loop-turns
decreases-loop-turns g l = 2 ^ 32 - g.T.Turns.made l.turns l.cpu
