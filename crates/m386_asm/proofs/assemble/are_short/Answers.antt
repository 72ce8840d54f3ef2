use Rattle.m386_asm.proofs.Fitting.{next}
use Rattle.m386_asm.proofs.assemble.are_short.Goals as goal

pub loop-section-preserved : goal.loop-section-preserved
loop-section-preserved c = next c.args.sections.now c.loop-section.section-index c.section-item.result c.loop-section-test.true c.section-item.is c.loop-section.invariant (c.is_short.ensures c.if-not-is_short.false)
