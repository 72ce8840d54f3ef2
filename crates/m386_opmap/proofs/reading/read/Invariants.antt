-- The bytes behind the prefixes so far have the answer, whatever follows them.
use Rattle.std.proofs.Common.{◌≡◌, ◌++◌, List, ℕ, drop}
use Rattle.m386_opmap.specs.Readings.{prefixed_reading, reading_by}
use Rattle.m386_opmap.proofs.reading.read.Given as goal

abbrev pub invariant-loop-at : goal.invariant-loop-at
invariant-loop-at l = record {
  exact : prefixed_reading l.table.rows.now l.prefixes l.at (drop l.at l.bytes) ≡ reading_by l.table.rows.now l.bytes;
  all : (more : List ℕ) → prefixed_reading l.table.rows.now l.prefixes l.at (drop l.at l.bytes ++ more) ≡ reading_by l.table.rows.now (l.bytes ++ more);
}
