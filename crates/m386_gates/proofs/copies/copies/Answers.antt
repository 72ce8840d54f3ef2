use Rattle.std.proofs.Common.{◌-◌}
use Rattle.m386_base.proofs.Phrases.{continues_on}
use Rattle.m386_gates.specs.Copies.{copy_phrase, copies_phrase}
use Rattle.m386_gates.proofs.Loops.{copies_next}
use Rattle.m386_gates.proofs.copies.copies.Goals as goal

pub loop-left-preserved : goal.loop-left-preserved
loop-left-preserved g c = record {
  cycles = continues_on (copy_phrase c.args.p.now (c.loop-left.left - 1) c.loop-left.stack) (λ next. copies_phrase c.args.p.now (c.loop-left.left - 1) next) c.loop-left.invariant.cycles (copies_next c.args.p.now c.loop-left.left c.loop-left.stack c.loop-left-test.true) c.in_ok-stack.ensures.cycles;
  free = c.in_ok-stack.ensures.free;
}
