use Rattle.std.proofs.Common.{◌≡◌, ◌++◌, ◌*◌, ◌-◌, map}
use Rattle.std.specs.List.{range_with_len}
use Rattle.m386_image.specs.declared.image.Planned.{Planned}
use Rattle.m386_gen.specs.Generated.{tick_of}
use Rattle.m386_gen.proofs.generate.add_ticks.Given as goal

abbrev pub invariant-loop-tick : goal.invariant-loop-tick
invariant-loop-tick l = l.plan ≡ l.initial.plan ++ map (tick_of l.cpu) (range_with_len 1 (l.tick - 1))
