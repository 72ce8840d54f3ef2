-- What one read of a source in memory and one write to a sink in memory do.
use Rattle.std.specs.Prelude.{◌≡◌, ℕ, ◌-◌, min, Bool, true, false, ◌||◌, nat_le, ◌==◌, List, ◌++◌, length, take, drop, Result, Ok, Err}
use Rattle.std.specs.List.{list_any}
use Rattle.m386_edge.specs.Edge.{counted}
use Rattle.m386_edge.specs.declared.failed.Failed.{Failed}

-- The call with this number, counted from 1, is listed as one that fails.
-- Own choice: docs/DECISIONS.md, "Sources, sinks and the gate"
abbrev pub is_listed : List ℕ → ℕ → Bool
is_listed fail_at number = list_any (λ listed. listed == number) fail_at

-- A source in memory: the bytes left, the most that one read gives, the numbers of the reads that fail, and how many
-- reads were made and how many of them failed.
-- Own choice: docs/DECISIONS.md, "Sources, sinks and the gate"
pub record MemInput : Type 0 where
  pub left : List ℕ
  pub piece : ℕ
  pub fail_at : List ℕ
  pub reads : ℕ
  pub faults : ℕ

-- How many bytes a read into `room` bytes gives.
-- Own choice: docs/DECISIONS.md, "Sources, sinks and the gate"
abbrev pub given_count : MemInput → ℕ → ℕ
given_count s room = min (min (length s.left) room) s.piece

-- What a read into `room` bytes does: it fails exactly where its number is listed, and else gives as many bytes as the
-- source has, the room takes and one read may give.
-- Own choice: docs/DECISIONS.md, "Sources, sinks and the gate"
abbrev pub MemReads : MemInput → MemInput → ℕ → Result ℕ Failed → Type 0
MemReads old new room (Ok n) =
    (is_listed old.fail_at (counted old.reads) ≡ false) × (n ≡ given_count old room)
    × (new ≡ record old { left = drop n old.left; reads = counted old.reads })
MemReads old new room (Err failed) =
    (is_listed old.fail_at (counted old.reads) ≡ true)
    × (new ≡ record old { reads = counted old.reads; faults = counted old.faults })

-- A sink in memory: the bytes held, the most that one write takes, the most that it may hold, the numbers of the writes
-- that fail, and how many writes were made and how many of them failed.
-- Own choice: docs/DECISIONS.md, "Sources, sinks and the gate"
pub record MemOutput : Type 0 where
  pub held : List ℕ
  pub piece : ℕ
  pub room : ℕ
  pub fail_at : List ℕ
  pub writes : ℕ
  pub faults : ℕ

-- How many bytes of a piece of this length a write takes.
-- Own choice: docs/DECISIONS.md, "Sources, sinks and the gate"
abbrev pub taken_count : MemOutput → ℕ → ℕ
taken_count s given = min (min given s.piece) (s.room - length s.held)

-- The next write fails: its number is listed, or the sink is full.
-- Own choice: docs/DECISIONS.md, "Sources, sinks and the gate"
abbrev pub write_fails : MemOutput → Bool
write_fails s = is_listed s.fail_at (counted s.writes) || nat_le s.room (length s.held)

-- What a write of a piece does: it fails exactly where its number is listed or the sink is full, and else takes as many
-- bytes as the piece has, one write may take and the sink has room for.
-- Own choice: docs/DECISIONS.md, "Sources, sinks and the gate"
abbrev pub MemWrites : MemOutput → MemOutput → List ℕ → Result ℕ Failed → Type 0
MemWrites old new piece (Ok n) =
    (write_fails old ≡ false) × (n ≡ taken_count old (length piece))
    × (new ≡ record old { held = old.held ++ take n piece; writes = counted old.writes })
MemWrites old new piece (Err failed) =
    (write_fails old ≡ true)
    × (new ≡ record old { writes = counted old.writes; faults = counted old.faults })
