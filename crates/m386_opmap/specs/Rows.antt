-- Which row of the opcode table covers a key.
use Rattle.std.specs.Prelude.{ℕ, zero, suc, ◌+◌, ◌*◌, ◌≤◌, Bool, true, ◌&&◌, ◌||◌, not, nat_le, nat_lt, List, [], ◌∷◌, drop, Option, if◌then◌else◌}
use Rattle.std.specs.List.{find}
use Rattle.m386_opmap.specs.declared.row.Row.{Row}

-- the row covers the key
abbrev pub Covers : Row → ℕ → Type 0
Covers r key = (r.low ≤ key) × (key ≤ r.high)

-- whether the row covers the key
abbrev pub covers_key : ℕ → Row → Bool
covers_key key r = nat_le r.low key && nat_le key r.high

-- each row ends below the begin of the next, from this key on
abbrev pub rising_from : ℕ → List Row → Bool
rising_from least [] = true
rising_from least (r ∷ rs) = nat_le least r.low && nat_le r.low r.high && rising_from (r.high + 1) rs

-- each row ends below the begin of the next
abbrev pub rising : List Row → Bool
rising rs = rising_from 0 rs

-- the row that covers a key
unfoldable pub row_at : ℕ → List Row → Option Row
row_at key rows = find (covers_key key) rows

-- whether the row is of this opcode, whatever the ModRM byte says, and takes LOCK where there is one
abbrev pub begins : Bool → ℕ → Row → Bool
begins lock opcode r = nat_le r.low (8 * opcode + 7) && nat_le (8 * opcode) r.high && (not lock || r.lock)

-- the first row of an opcode, of those that take LOCK where there is one
unfoldable pub row_of : Bool → ℕ → List Row → Option Row
row_of lock opcode rows = find (begins lock opcode) rows

-- how many rows at the front end below a key
unfoldable pub rows_below : ℕ → List Row → ℕ
rows_below key [] = 0
rows_below key (r ∷ rs) = if nat_lt r.high key then suc (rows_below key rs) else 0

-- for so many opcodes, from this one on, how many rows end below each
unfoldable pub counts_from : ℕ → ℕ → List Row → List ℕ
counts_from opcode zero rows = []
counts_from opcode (suc n) rows = rows_below (8 * opcode) rows ∷ counts_from (opcode + 1) n rows

-- the rows that don't end below an opcode
unfoldable pub rows_from : ℕ → List Row → List Row
rows_from opcode rows = drop (rows_below (8 * opcode) rows) rows
