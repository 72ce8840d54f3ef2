use Rattle.m386_book.proofs.Guarded.{NoneGuarded}
use Rattle.m386_book.proofs.rules.touches.Given as goal

-- no byte so far is guarded
abbrev pub invariant-loop-byte : goal.invariant-loop-byte
invariant-loop-byte l = NoneGuarded l.image l.byte-items l.byte-index
