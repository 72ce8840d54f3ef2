use Rattle.std.proofs.Common.{◌+◌, ◌++◌, refl, ap, ◌∙◌, arith, List, ℕ}
use Rattle.m386_gen.specs.Code.{far_call}
use Rattle.m386_gen.specs.Generated.{selector_of}
use Rattle.m386_gen.proofs.Counting.{flat_map_on}
use Rattle.m386_gen.proofs.code.put_calls.Goals as goal

pub loop-worker-preserved : goal.loop-worker-preserved
loop-worker-preserved c =
    flat_map_on 0 c.loop-worker.worker c.loop-worker.worker c.loop-worker.code.items _ c.args.code.now.items (λ i. far_call (selector_of (c.args.first + i))) c.loop-worker.invariant (omega arith)
    (c.in_ok-put_far_call.ensures ∙ ap (λ (n : ℕ). c.loop-worker.code.items ++ far_call n) c.selector_of.ensures)
