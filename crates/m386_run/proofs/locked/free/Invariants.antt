use Rattle.std.proofs.Common.{◌≡◌, ◌≤◌, ℕ}
use Rattle.m386_turns.specs.Turns.{Stays}
use Rattle.m386_run.proofs.locked.free.Given as goal

abbrev pub invariant-loop-cpu : goal.invariant-loop-cpu
invariant-loop-cpu g l = record {
  stays : Stays g.T.Turns.count g.T.Turns.done g.T.Turns.made l.initial.turns l.turns;
  whole : l.cpu-end ≡ g.T.Turns.count l.initial.turns;
  later : (k : ℕ) → g.T.Turns.amid l.turns k → l.cpu ≤ k;
}
