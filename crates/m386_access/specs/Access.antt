-- Operands in memory.
use Rattle.std.specs.Prelude.{ℕ, Bool, true, false, List, [], ◌∷◌, bit_or, if◌then◌else◌}
use Rattle.m386_base.specs.declared.ask.Ask.{Ask}
use Rattle.m386_base.specs.declared.ask.Space.TheVariants.{Memory}
use Rattle.m386_base.specs.declared.ask.Role.{Role}
use Rattle.m386_base.specs.declared.ask.Role.TheVariants.{Operand}
use Rattle.m386_base.specs.declared.split.Piece.{Piece}
use Rattle.m386_base.specs.Split.{pieces, gather_of, spread_of}
use Rattle.m386_base.specs.Phrase.{Phrase, Done, Faults, ◌>>=◌, one}
use Rattle.m386_opmap.specs.declared.op.Addr.{Addr}
use Rattle.m386_state.specs.declared.proc.Proc.{Proc}
use Rattle.m386_state.specs.Start.{seg_at}
use Rattle.m386_access.specs.Address.{segment_number, offset_of, may_read, may_write, linear_of, access_fault_of}

-- the groups of an operand
abbrev pub memory_pieces : ℕ → ℕ → List Piece
memory_pieces offset len = pieces Memory offset len

-- a group of an access, read
abbrev pub read_ask : Role → Bool → Piece → Ask
read_ask role joined p = record { space = Memory; write = false; joined = joined; role = role; part = p.place; addr = p.addr; enables = p.enables; value = 0 }

-- groups read one after another, each put at its place
unfoldable pub reads : Role → ℕ → List Piece → Phrase ℕ
reads role value [] = Done value
reads role value (p ∷ ps) = do
  found ← one (read_ask role false p)
  reads role (bit_or value (gather_of p found)) ps

-- a group of an access, written
abbrev pub write_ask : Role → Bool → Piece → ℕ → Ask
write_ask role joined p value = record { space = Memory; write = true; joined = joined; role = role; part = p.place; addr = p.addr; enables = p.enables; value = spread_of p value }

-- groups written one after another
unfoldable pub writes : Role → ℕ → List Piece → Phrase (Unit {0})
writes role value [] = Done tt
writes role value (p ∷ ps) = do
  _ ← one (write_ask role false p value)
  writes role value ps

-- Bytes read through a segment register: the fault of the first false test and no cycle, else their groups.
-- Source: Intel 80386 PRM 6.3.1
unfoldable pub read_phrase : Proc → Role → ℕ → ℕ → ℕ → Phrase ℕ
read_phrase p role seg offset len =
    let s = seg_at p seg in
    if may_read s offset len then reads role 0 (memory_pieces (linear_of s offset) len) else Faults (access_fault_of seg)

-- Bytes written through a segment register.
-- Source: Intel 80386 PRM 6.3.1
unfoldable pub write_phrase : Proc → Role → ℕ → ℕ → ℕ → ℕ → Phrase (Unit {0})
write_phrase p role seg offset len value =
    let s = seg_at p seg in
    if may_write s offset len then writes role value (memory_pieces (linear_of s offset) len) else Faults (access_fault_of seg)

-- a memory operand read
abbrev pub read_at_phrase : Proc → Addr → ℕ → Phrase ℕ
read_at_phrase p a len = read_phrase p Operand (segment_number a.seg a.base) (offset_of p a) len

-- a memory operand written
abbrev pub write_at_phrase : Proc → Addr → ℕ → ℕ → Phrase (Unit {0})
write_at_phrase p a len value = write_phrase p Operand (segment_number a.seg a.base) (offset_of p a) len value
