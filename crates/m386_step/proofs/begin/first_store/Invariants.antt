use Rattle.m386_step.proofs.Beginnings.{HasFilled}
use Rattle.m386_step.proofs.begin.first_store.Given as goal

abbrev pub invariant-loop-section : goal.invariant-loop-section
invariant-loop-section l = HasFilled l.image l.section-items l.section-index l.store
