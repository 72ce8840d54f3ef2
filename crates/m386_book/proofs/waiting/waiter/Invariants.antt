use Rattle.std.proofs.Common.{◌≡◌, drop}
use Rattle.m386_book.specs.Holding.{waiter_by}
use Rattle.m386_book.proofs.waiting.waiter.Given as goal

-- the entries so far are by other tasks
abbrev pub invariant-loop-entry : goal.invariant-loop-entry
invariant-loop-entry l = waiter_by l.by l.entries ≡ waiter_by l.by (drop l.entry-index l.entries)
