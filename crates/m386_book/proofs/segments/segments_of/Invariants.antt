use Rattle.m386_book.proofs.Found.{SoFar}
use Rattle.m386_book.proofs.segments.segments_of.Given as goal

-- the TSSs with numbers so far have been found
abbrev pub invariant-loop-number : goal.invariant-loop-number
invariant-loop-number l = SoFar l.image l.number l.found.bases.items l.found.shared l.found.busy
