use Rattle.std.proofs.Common.{take}
use Rattle.m386_memory.specs.History.{past}
use Rattle.m386_book.specs.Book.{book_after}
use Rattle.m386_book.specs.Holding.{Keeps}
use Rattle.m386_book.proofs.holding.book.Given as goal

-- the lists are those of the book after the cycles so far
abbrev pub invariant-loop-cycle : goal.invariant-loop-cycle
invariant-loop-cycle l = Keeps (book_after l.image (past (take l.cycle-index l.cycles))) l.tasks.held l.tasks.waiting.items l.tasks.live.items
