use Rattle.std.proofs.Common.{take}
use Rattle.m386_memory.specs.History.{past}
use Rattle.m386_book.specs.Book.{book_after}
use Rattle.m386_book.specs.Holding.{Keeps}
use Rattle.m386_book.specs.Verdict.{AreClean}
use Rattle.m386_book.proofs.clean.first_failed_cycle.Given as goal

-- the lists are those of the book after the cycles so far, and none of these fails a rule
abbrev pub invariant-loop-index : goal.invariant-loop-index
invariant-loop-index l = record {
  book : Keeps (book_after l.image (past (take l.index l.cycles))) l.tasks.held l.tasks.waiting.items l.tasks.live.items;
  clean : AreClean l.image (past (take l.index l.cycles));
}
