use Rattle.std.proofs.Common.{arith, rules}
use Rattle.m386_gen.specs.Generated.{scheduler_section}
use Rattle.m386_gen.proofs.Counting.{map_on}
use Rattle.m386_gen.proofs.sections.add_schedulers.Goals as goal

pub loop-number-preserved : goal.loop-number-preserved
loop-number-preserved c = map_on 0 c.loop-number.number c.loop-number.number c.loop-number.sections _ c.args.sections.now (scheduler_section c.args.schedulers c.args.workers) c.loop-number.invariant (omega arith) (search rules)
