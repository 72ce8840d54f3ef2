use Rattle.std.proofs.Common.{◌≡◌, ◌++◌, ◌+◌}
use Rattle.std.specs.List.{flat_map, range_with_len}
use Rattle.m386_gen.specs.Code.{far_call}
use Rattle.m386_gen.specs.Generated.{selector_of}
use Rattle.m386_gen.proofs.code.put_calls.Given as goal

abbrev pub invariant-loop-worker : goal.invariant-loop-worker
invariant-loop-worker l = l.code.items ≡ l.initial.code.items ++ flat_map (λ i. far_call (selector_of (l.first + i))) (range_with_len 0 l.worker)
