use Rattle.m386_book.proofs.Copied.{Copied}
use Rattle.m386_book.proofs.table.copy_section.Given as goal

-- the places so far have the section's bytes
abbrev pub invariant-loop-place : goal.invariant-loop-place
invariant-loop-place l = Copied l.content l.initial.bytes l.bytes l.base l.addr l.start l.end l.place
