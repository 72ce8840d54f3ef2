use Rattle.std.proofs.Common.{◌≡◌, false}
use Rattle.m386_base_cases.proofs.tests.memory.a_fixed_bus_pauses_at_192_cycles.Given as goal

abbrev pub invariant-loop-count : goal.invariant-loop-count
invariant-loop-count g l = l.bus.kept ≡ false
