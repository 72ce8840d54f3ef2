use Rattle.std.proofs.Common.{◌<◌}
use Rattle.m386_core.proofs.ahead.foreseen.Given as goal

abbrev pub invariant-loop-cycle : goal.invariant-loop-cycle
invariant-loop-cycle l = l.ask.enables < 16
