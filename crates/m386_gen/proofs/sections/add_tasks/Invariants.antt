use Rattle.std.proofs.Common.{◌≡◌, ◌++◌, map}
use Rattle.std.specs.List.{range_with_len}
use Rattle.m386_gen.specs.Generated.{tss_section}
use Rattle.m386_gen.proofs.sections.add_tasks.Given as goal

abbrev pub invariant-loop-task : goal.invariant-loop-task
invariant-loop-task l = l.sections ≡ l.initial.sections ++ map (tss_section l.schedulers) (range_with_len 0 l.task)
