-- The sections so far are short.
use Rattle.std.proofs.Common.{take}
use Rattle.std.specs.List.{AllByRecursion}
use Rattle.m386_image.specs.Format.{HasText}
use Rattle.m386_asm.proofs.assemble.are_short.Given as goal

abbrev pub invariant-loop-section : goal.invariant-loop-section
invariant-loop-section l = AllByRecursion HasText (take l.section-index l.sections)
