-- Fields of a task state segment on the bus.
use Rattle.std.specs.Prelude.{ℕ, true, false, List, [], ◌∷◌, ◌+◌, ◌%◌, ◌^◌, bit_or}
use Rattle.m386_base.specs.declared.ask.Ask.{Ask}
use Rattle.m386_base.specs.declared.ask.Role.{Role}
use Rattle.m386_base.specs.declared.ask.Space.TheVariants.{Memory}
use Rattle.m386_base.specs.declared.split.Piece.{Piece}
use Rattle.m386_base.specs.Split.{gather_of, spread_of}
use Rattle.m386_base.specs.Phrase.{Phrase, Done, ◌>>=◌, one}
use Rattle.m386_access.specs.Access.{memory_pieces}
use Rattle.m386_tss.specs.Fields.{field_at}

-- A group of a field, read. Its part is the field's number.
-- Own choice: docs/DECISIONS.md, "The form of a bus cycle"
abbrev pub field_ask : Role → ℕ → Piece → Ask
field_ask role number p = record { space = Memory; write = false; joined = false; role = role; part = number; addr = p.addr; enables = p.enables; value = 0 }

-- A group of a field, written.
-- Own choice: docs/DECISIONS.md, "The form of a bus cycle"
abbrev pub field_write_ask : Role → ℕ → Piece → ℕ → Ask
field_write_ask role number p value = record { space = Memory; write = true; joined = false; role = role; part = number; addr = p.addr; enables = p.enables; value = spread_of p value }

-- the groups of a field of the TSS at this base
abbrev pub field_pieces : ℕ → ℕ → List Piece
field_pieces base number = memory_pieces ((base + (field_at number).offset) % 2 ^ 32) (field_at number).len

-- groups of a field, read one after another
unfoldable pub field_reads : Role → ℕ → ℕ → List Piece → Phrase ℕ
field_reads role number value [] = Done value
field_reads role number value (p ∷ ps) = do
  found ← one (field_ask role number p)
  field_reads role number (bit_or value (gather_of p found)) ps

-- groups of a field, written one after another
unfoldable pub field_writes : Role → ℕ → ℕ → List Piece → Phrase (Unit {0})
field_writes role number value [] = Done tt
field_writes role number value (p ∷ ps) = do
  _ ← one (field_write_ask role number p value)
  field_writes role number value ps

-- A field of the TSS at this base.
-- Source: Intel 80386 PRM 7.1
unfoldable pub field_phrase : Role → ℕ → ℕ → Phrase ℕ
field_phrase role base number = field_reads role number 0 (field_pieces base number)

-- A field of the TSS at this base, written.
-- Source: Intel 80386 PRM 7.1
unfoldable pub field_write_phrase : Role → ℕ → ℕ → ℕ → Phrase (Unit {0})
field_write_phrase role base number value = field_writes role number value (field_pieces base number)
