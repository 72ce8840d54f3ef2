use Rattle.std.proofs.Common.{◌≡◌, ◌++◌}
use Rattle.std.specs.List.{flat_map, range_with_len}
use Rattle.m386_gen.specs.Generated.{task_descriptor}
use Rattle.m386_gen.proofs.tables.put_tasks.Given as goal

abbrev pub invariant-loop-task : goal.invariant-loop-task
invariant-loop-task l = l.out.items ≡ l.initial.out.items ++ flat_map task_descriptor (range_with_len 0 l.task)
