use Rattle.std.proofs.Common.{◌≡◌, ℕ, ◌++◌, ap, sym, ◌∙◌, arith, rules}
use Rattle.m386_gen.specs.Generated.{task_descriptor}
use Rattle.m386_gen.proofs.Counting.{flat_map_on}
use Rattle.m386_gen.proofs.tables.put_tasks.Goals as goal

pub loop-task-preserved : goal.loop-task-preserved
loop-task-preserved c =
    flat_map_on 0 c.loop-task.task c.loop-task.task c.loop-task.out.items _ c.args.out.now.items task_descriptor c.loop-task.invariant (omega arith) (search rules)
