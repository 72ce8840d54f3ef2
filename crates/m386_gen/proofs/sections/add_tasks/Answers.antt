use Rattle.std.proofs.Common.{arith, rules}
use Rattle.m386_gen.specs.Generated.{tss_section}
use Rattle.m386_gen.proofs.Counting.{map_on}
use Rattle.m386_gen.proofs.sections.add_tasks.Goals as goal

pub loop-task-preserved : goal.loop-task-preserved
loop-task-preserved c = map_on 0 c.loop-task.task c.loop-task.task c.loop-task.sections _ c.args.sections.now (tss_section c.args.schedulers) c.loop-task.invariant (omega arith) (search rules)
