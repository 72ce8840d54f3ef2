use Rattle.std.proofs.Common.{get_or, drop, ◌+◌}
use Rattle.m386_base.proofs.Phrases.{continues_on}
use Rattle.m386_stack.specs.All.{pops, pop_register_phrase}
use Rattle.m386_stack.proofs.Loops.{pops_next}
use Rattle.m386_stack.proofs.all.pop_each.Goals as goal

pub loop-register-preserved : goal.loop-register-preserved
loop-register-preserved g c = record {
  cycles = continues_on (pop_register_phrase c.loop-register.p c.args.stack.now c.args.width (get_or c.args.registers.now c.loop-register.register-index 0)) (λ next. pops next c.args.stack.now c.args.width (drop (c.loop-register.register-index + 1) c.args.registers.now)) c.loop-register.invariant.cycles (pops_next c.loop-register.p c.args.stack.now c.args.width c.args.registers.now c.loop-register.register-index c.loop-register-test.true) c.in_ok-p.ensures.cycles;
  free = c.in_ok-p.ensures.free;
}
