use Rattle.std.proofs.Common.{◌+◌, ◌-◌, arith, ◌∙◌}
use Rattle.m386_image.proofs.Plans.{entries_more}
use Rattle.m386_image.proofs.plan.plan_of.Goals as goal

pub loop-preserved : goal.loop-preserved
loop-preserved c = record {
  room = omega (arith, c.loop.invariant.room, c.split_at.ensures.back_len, c.loop-test.true);
  same = rw (c.in_ok-push.ensures.ok, c.entry_at.ensures, c.split_at.ensures.back) (c.loop.invariant.same ∙ entries_more (c.args.count - c.loop.counter) (c.args.count - (c.loop.counter + 1)) c.loop.rest.now c.loop.plan (omega (arith, c.loop-test.true)));
}
