-- A descriptor on the bus: its eight bytes read, and its access byte written.
use Rattle.std.specs.Prelude.{ℕ, Bool, true, false, List, [], ◌∷◌, ◌+◌, ◌-◌, ◌%◌, ◌^◌, bit_or}
use Rattle.m386_base.specs.declared.ask.Role.{Role}
use Rattle.m386_base.specs.declared.desc.Desc.{Desc}
use Rattle.m386_base.specs.declared.split.Piece.{Piece}
use Rattle.m386_base.specs.Split.{gather_of}
use Rattle.m386_base.specs.Phrase.{Phrase, Done, ◌>>=◌, one}
use Rattle.m386_desc.specs.Bytes.{descriptor_in, two_doublewords}
use Rattle.m386_access.specs.Access.{memory_pieces, read_ask, write_ask}

-- a doubleword of a descriptor, read group by group; all but the first group are joined, and that one where `joined` says so
unfoldable pub word_reads : Role → Bool → ℕ → List Piece → Phrase ℕ
word_reads role joined value [] = Done value
word_reads role joined value (p ∷ ps) = do
  found ← one (read_ask role joined p)
  word_reads role true (bit_or value (gather_of p found)) ps

-- A descriptor read, the low doubleword first. It begins a locked group.
-- Source: Intel 80386 PRM 5.1.1; the order: docs/DECISIONS.md, "Accesses to descriptors"
unfoldable pub descriptor_phrase : Role → ℕ → Phrase Desc
descriptor_phrase role address = do
  lo ← word_reads role false 0 (memory_pieces address 4)
  hi ← word_reads role true 0 (memory_pieces ((address + 4) % 2 ^ 32) 4)
  Done (descriptor_in (two_doublewords lo hi))

-- the group of one byte
abbrev pub byte_piece : ℕ → Piece
byte_piece address = record { addr = address - address % 4; enables = 2 ^ (address % 4); place = 0 }

-- The access byte of the descriptor at this address, byte 5, written in the locked group that is open.
-- Source: Intel 80386 PRM 5.1.1; docs/DECISIONS.md, "Accesses to descriptors"
unfoldable pub access_byte_phrase : Role → ℕ → ℕ → Phrase ℕ
access_byte_phrase role address value = one (write_ask role true (byte_piece ((address + 5) % 2 ^ 32)) value)
