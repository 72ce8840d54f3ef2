use Rattle.std.proofs.Common.{get_or, drop, ◌+◌}
use Rattle.m386_base.proofs.Phrases.{continues_on}
use Rattle.m386_stack.specs.Stack.{pushes, push_phrase}
use Rattle.m386_stack.proofs.Loops.{pushes_next}
use Rattle.m386_stack.proofs.stack.push_all.Goals as goal

pub loop-value-preserved : goal.loop-value-preserved
loop-value-preserved g c = record {
  cycles = continues_on (push_phrase c.loop-value.stack c.args.len (get_or c.args.values.now c.loop-value.value-index 0)) (λ next. pushes next c.args.len (drop (c.loop-value.value-index + 1) c.args.values.now)) c.loop-value.invariant.cycles (pushes_next c.loop-value.stack c.args.len c.args.values.now c.loop-value.value-index c.loop-value-test.true) c.in_ok-stack.ensures.cycles;
  free = c.in_ok-stack.ensures.free;
}
