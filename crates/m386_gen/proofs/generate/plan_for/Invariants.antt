use Rattle.std.proofs.Common.{◌≡◌}
use Rattle.std.specs.List.{flat_map, range_with_len}
use Rattle.m386_gen.specs.Generated.{ticks_of}
use Rattle.m386_gen.proofs.generate.plan_for.Given as goal

abbrev pub invariant-loop-cpu : goal.invariant-loop-cpu
invariant-loop-cpu l = l.plan ≡ flat_map ticks_of (range_with_len 0 l.cpu)
