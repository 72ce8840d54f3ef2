use Rattle.m386_book.proofs.Walks.{keeps_first, keeps_more}
use Rattle.m386_book.proofs.holding.book.Goals as goal

pub loop-cycle-init : goal.loop-cycle-init
loop-cycle-init c = keeps_first c.args.image.now c.args.cycles.now _ _ _ c.new-tasks.ensures

pub loop-cycle-preserved : goal.loop-cycle-preserved
loop-cycle-preserved c = keeps_more c.args.image.now c.args.cycles.now _ _ _ _ _ c.loop-cycle-test.true (c.in_ok-follow.ensures _ c.loop-cycle.invariant)
