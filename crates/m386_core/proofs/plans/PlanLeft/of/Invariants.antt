use Rattle.std.proofs.Common.{◌≡◌, length}
use Rattle.m386_core.specs.Plans.{entries_of}
use Rattle.m386_core.proofs.plans.PlanLeft.of.Given as goal

abbrev pub invariant-loop-first : goal.invariant-loop-first
invariant-loop-first l = entries_of l.cpu l.behind ≡ entries_of l.cpu l.entries

abbrev pub decreases-loop-first : goal.decreases-loop-first
decreases-loop-first l = length l.behind
