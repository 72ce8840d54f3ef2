use Rattle.std.proofs.Common.{◌≡◌, ◌<◌, ℕ, get_or, None}
use Rattle.m386_core.specs.declared.unfinished.Unfinished.{Unfinished}
use Rattle.m386_core.proofs.machine.Machine.due.Given as goal

abbrev pub invariant-loop-cpu : goal.invariant-loop-cpu
invariant-loop-cpu l = (p : ℕ) (t : Unfinished) → p < l.cpu → (get_or l.self-inside.unfinished.items p t).next ≡ None
