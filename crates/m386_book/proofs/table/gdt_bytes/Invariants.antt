use Rattle.m386_book.proofs.Copied.{Filled}
use Rattle.m386_book.proofs.table.gdt_bytes.Given as goal

-- the sections from left on stand in the table
abbrev pub invariant-loop-left : goal.invariant-loop-left
invariant-loop-left l = Filled l.image l.sections l.left l.table.items

abbrev pub decreases-loop-left : goal.decreases-loop-left
decreases-loop-left l = l.left
