use Rattle.std.proofs.Common.{◌≡◌, ◌<◌, ℕ}
use Rattle.m386_run.proofs.locked.finish.Given as goal

abbrev pub invariant-loop-cpu : goal.invariant-loop-cpu
invariant-loop-cpu g l = record {
  free : (k : ℕ) → ¬ g.T.Turns.amid l.turns k;
  whole : l.cpu-end ≡ g.T.Turns.count l.turns;
  finished : (k : ℕ) → k < l.cpu → g.T.Turns.done l.turns k;
}
