use Rattle.std.proofs.Common.{[], arith}
use Rattle.m386_gen.specs.Generated.{ticks_of}
use Rattle.m386_gen.proofs.Counting.{flat_map_on}
use Rattle.m386_gen.proofs.generate.plan_for.Goals as goal

pub loop-cpu-preserved : goal.loop-cpu-preserved
loop-cpu-preserved c = flat_map_on 0 c.loop-cpu.cpu c.loop-cpu.cpu c.loop-cpu.plan _ [] ticks_of c.loop-cpu.invariant (omega arith) c.in_ok-add_ticks.ensures
