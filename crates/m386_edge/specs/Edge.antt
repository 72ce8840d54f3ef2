-- What a read takes from a source and a write adds to a sink, where these tell their bytes.
use Rattle.std.specs.Prelude.{◌≡◌, ℕ, ◌+◌, ◌-◌, ◌^◌, ◌<◌, ◌≤◌, ◌↔◌, min, List, [], ◌++◌, Option, Some, None, IfSome, take, length}

-- A count after one more, which stands still at the last value of 64 bits.
-- Own choice: docs/DECISIONS.md, "Sources, sinks and the gate"
abbrev pub counted : ℕ → ℕ
counted n = min (n + 1) (2 ^ 64 - 1)

-- What a source had left before it gave these bytes.
-- Own choice: docs/DECISIONS.md, "Sources, sinks and the gate"
unfoldable pub given_back : List ℕ → Option (List ℕ) → Option (List ℕ)
given_back bytes None = None
given_back bytes (Some left) = Some (bytes ++ left)

-- A source gave these bytes, which stood at the front of what it had left.
-- Own choice: docs/DECISIONS.md, "Sources, sinks and the gate"
abbrev pub Gave : Option (List ℕ) → Option (List ℕ) → List ℕ → Type 0
Gave old new bytes = old ≡ given_back bytes new

-- A source has nothing left, where it tells.
-- Own choice: docs/DECISIONS.md, "Sources, sinks and the gate"
abbrev pub IsEmptied : Option (List ℕ) → Type 0
IsEmptied left = IfSome left (λ bytes. bytes ≡ [])

-- What a read into `room` bytes does that answers n, where the buffer then holds `buf`: the first n bytes of what was
-- left are in it and gone from the source, and n is 0 exactly at the end of input.
-- Own choice: docs/DECISIONS.md, "Sources, sinks and the gate"
pub record Reads (old new : Option (List ℕ)) (room : ℕ) (buf : List ℕ) (n : ℕ) : Type 0 where
  pub within : n ≤ room
  pub gave : Gave old new (take n buf)
  pub end : IfSome old (λ bytes. (n ≡ 0) ↔ (bytes ≡ []))

-- The bytes that a sink holds, with more behind them.
-- Own choice: docs/DECISIONS.md, "Sources, sinks and the gate"
unfoldable pub grown : Option (List ℕ) → List ℕ → Option (List ℕ)
grown None bytes = None
grown (Some held) bytes = Some (held ++ bytes)

-- A sink took these bytes, which stand behind those that it held.
-- Own choice: docs/DECISIONS.md, "Sources, sinks and the gate"
abbrev pub Grows : Option (List ℕ) → Option (List ℕ) → List ℕ → Type 0
Grows old new bytes = new ≡ grown old bytes

-- What a write of a piece does that answers n: it took the first n bytes, at least one.
-- Own choice: docs/DECISIONS.md, "Sources, sinks and the gate"
pub record Writes (old new : Option (List ℕ)) (piece : List ℕ) (n : ℕ) : Type 0 where
  pub some : 0 < n
  pub within : n ≤ length piece
  pub grows : Grows old new (take n piece)

-- A sink took a front of these bytes, however short.
-- Own choice: docs/DECISIONS.md, "Sources, sinks and the gate"
pub record GrowsByFront (old new : Option (List ℕ)) (bytes : List ℕ) : Type 0 where
  pub count : ℕ
  pub within : count ≤ length bytes
  pub grows : Grows old new (take count bytes)
