-- A history of cycles: what stands at a place after it, and what makes it lawful.
use Rattle.std.specs.Prelude.{ℕ, ◌≡◌, ◌==◌, ◌&&◌, Bool, true, false, Option, Some, None, List, [], ◌∷◌, map, filter, reverse, unwrap_or, if◌then◌else◌}
use Rattle.m386_base.specs.declared.ask.Ask.{Ask}
use Rattle.m386_base.specs.declared.ask.Cycle.{Cycle}
use Rattle.m386_base.specs.declared.ask.Space.{Space}
use Rattle.m386_base.specs.Phrase.{space_number}
use Rattle.m386_base.specs.Bus.{IsAsk}
use Rattle.m386_base.specs.Bytes.{bytes_of, byte_at_place}
use Rattle.m386_memory.specs.Contents.{Contents, byte_in, holds_byte, Stand, SameSize}

-- What contracts see of a record: the contents that it began with, and the cycles made since, in their order.
pub record RecordView : Type 0 where
  pub first : Contents
  pub cycles : List Cycle

-- the cycles of a history, the newest first
abbrev pub past : List Cycle → List Cycle
past H = reverse H

-- this cycle writes in this space
abbrev pub writes_in : Cycle → Space → Bool
writes_in x s = x.ask.write && (space_number x.ask.space == space_number s)

-- the byte at a place after a cycle, where this one stood there before
abbrev pub byte_then : Contents → Cycle → Space → ℕ → ℕ → ℕ
byte_then c x s a before = if writes_in x s && holds_byte c s a then unwrap_or (byte_at_place (bytes_of x.ask) a) before else before

-- The byte at a place after these cycles, the newest first: that of the last write that enables it, else that of the first
-- contents. A write past the end of memory is lost.
-- Own choice: docs/DECISIONS.md, "What a read gives"
unfoldable pub byte_after : Contents → List Cycle → Space → ℕ → ℕ
byte_after c [] s a = byte_in c s a
byte_after c (x ∷ older) s a = byte_then c x s a (byte_after c older s a)

-- Each read among these cycles, the newest first, gives the bytes that stand there.
-- Own choice: docs/DECISIONS.md, "What a read gives"
unfoldable pub Consistent : Contents → List Cycle → Type 0
Consistent c [] = Unit {0}
Consistent c (x ∷ older) = (x.ask.write ≡ false → Stand (byte_after c older x.ask.space) (bytes_of x.ask)) × Consistent c older

-- the processor that made the newest of these cycles
abbrev pub last_cpu : List Cycle → Option ℕ
last_cpu [] = None
last_cpu (x ∷ older) = Some x.cpu

-- Each joined cycle among these, the newest first, directly follows a cycle of the same processor.
-- Own choice: docs/DECISIONS.md, "Locked groups"
unfoldable pub Unsplit : List Cycle → Type 0
Unsplit [] = Unit {0}
Unsplit (x ∷ older) = (x.ask.joined ≡ true → last_cpu older ≡ Some x.cpu) × Unsplit older

-- Each of these cycles is one that may be made.
-- Own choice: docs/DECISIONS.md, "The form of a bus cycle"
unfoldable pub WellFormed : List Cycle → Type 0
WellFormed [] = Unit {0}
WellFormed (x ∷ older) = IsAsk x.ask × WellFormed older

-- a list of cycles, in their order, that may be made from these first contents on
pub record IsHistory (first : Contents) (H : List Cycle) : Type 0 where
  pub formed : WellFormed (past H)
  pub consistent : Consistent first (past H)
  pub unsplit : Unsplit (past H)

-- what a record keeps: its cycles are a history, and its bytes stand as they left them
pub record IsRecord (first : Contents) (H : List Cycle) (now : Contents) : Type 0 where
  pub history : IsHistory first H
  pub size : SameSize first now
  pub bytes : (s : Space) (a : ℕ) → byte_in now s a ≡ byte_after first (past H) s a

-- the cycles of one processor, in their order, as its asks with their values
abbrev pub cycles_of : ℕ → List Cycle → List Ask
cycles_of p H = map (λ c. c.ask) (filter (λ c. c.cpu == p) H)
