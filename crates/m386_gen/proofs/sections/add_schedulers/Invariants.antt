use Rattle.std.proofs.Common.{◌≡◌, ◌++◌, map}
use Rattle.std.specs.List.{range_with_len}
use Rattle.m386_gen.specs.Generated.{scheduler_section}
use Rattle.m386_gen.proofs.sections.add_schedulers.Given as goal

abbrev pub invariant-loop-number : goal.invariant-loop-number
invariant-loop-number l = l.sections ≡ l.initial.sections ++ map (scheduler_section l.schedulers l.workers) (range_with_len 0 l.number)
