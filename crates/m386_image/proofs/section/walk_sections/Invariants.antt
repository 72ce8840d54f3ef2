use Rattle.m386_image.proofs.Sections.{Walked}
use Rattle.m386_image.proofs.section.walk_sections.Given as goal

abbrev pub invariant-loop : goal.invariant-loop
invariant-loop l = Walked l.counter l.bytes l.memory l.rest l.placed l.end
