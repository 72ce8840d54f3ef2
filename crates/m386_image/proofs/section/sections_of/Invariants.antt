use Rattle.m386_image.specs.Format.{TakesAll}
use Rattle.m386_image.proofs.section.sections_of.Given as goal

abbrev pub invariant-loop : goal.invariant-loop
invariant-loop l = TakesAll l.counter l.bytes l.sections l.rest
