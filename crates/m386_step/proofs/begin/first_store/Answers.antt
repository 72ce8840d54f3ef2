use Rattle.m386_step.proofs.Beginnings.{fills_none, fills_next}
use Rattle.m386_step.proofs.begin.first_store.Goals as goal

pub loop-section-init : goal.loop-section-init
loop-section-init c = fills_none c.args.image.now c.as_slice-section-items.result.now c.in_ok-store.store c.as_slice-section-items.ensures c.in_ok-store.ensures.memory c.in_ok-store.ensures.ports

pub loop-section-preserved : goal.loop-section-preserved
loop-section-preserved c =
    fills_next c.args.image.now c.as_slice-section-items.result.now c.loop-section.section-index c.loop-section.store c.fill.new.self c.section-item.result c.requires c.loop-section.invariant c.loop-section-test.true c.section-item.is (rw c.as_slice.ensures at c.fill.ensures)
