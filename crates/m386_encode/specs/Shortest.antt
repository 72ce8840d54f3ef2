-- The spelling that an encoder chooses.
use Rattle.std.specs.Prelude.{ℕ, ◌≡◌, ◌<◌, ◌≤◌, Bool, false, List, length, Option, Some, None}
use Rattle.arrayvec.specs.ArrayVec.{ArrayVec}
use Rattle.m386_opmap.specs.declared.op.Op.{Op}
use Rattle.m386_opmap.specs.Spelling.{Spells}
use Rattle.m386_opmap.specs.declared.row.Row.{Row}
use Rattle.m386_opmap.specs.declared.row.Operand.TheVariants.{Absent}
use Rattle.m386_opmap.specs.declared.row.Size.TheVariants.{Byte}
use Rattle.m386_opmap.specs.declared.name.Name.TheVariants.{Add}
use Rattle.m386_encode.specs.Candidates.{candidate}
use Rattle.m386_encode.specs.Order.{is_before}

-- the bytes spell the operation
pub record IsSpelling (op : Op) (bytes : List ℕ) : Type 0 where
  pub spells : Spells op bytes

-- The bytes spell the operation, and no spelling of it is shorter, or as long and less.
-- Own choice: docs/DECISIONS.md, "Which spelling is written"
pub record IsShortest (op : Op) (bytes : List ℕ) : Type 0 where
  pub spells : Spells op bytes
  pub first : (other : List ℕ) → Spells op other → is_before other bytes ≡ false

-- there are bytes, and they spell the operation
abbrev pub IsSound : Op → Option (ArrayVec ℕ) → Type 0
IsSound op None = Unit {0}
IsSound op (Some best) = IsSpelling op best.items

-- there are bytes, and the others come not before them
abbrev pub IsReached : Option (ArrayVec ℕ) → List ℕ → Type 0
IsReached None other = ⊥
IsReached (Some best) other = is_before other best.items ≡ false

-- there are bytes, and they are those by which the row would spell the operation
abbrev pub IsCandidate : Op → Row → Bool → ℕ → Option (ArrayVec ℕ) → Type 0
IsCandidate op row narrow mode None = ⊥
IsCandidate op row narrow mode (Some best) = best.items ≡ candidate op row narrow mode

-- the bytes by which the row would spell the operation come not before the best, where they do spell it
pub record IsMet (op : Op) (best : Option (ArrayVec ℕ)) (row : Row) : Type 0 where
  pub met : (narrow : Bool) (mode : ℕ) → mode < 3 → length (candidate op row narrow mode) ≤ 15 → IsSpelling op (candidate op row narrow mode) →
      IsReached best (candidate op row narrow mode)

-- what stands past the end of a list of rows
abbrev pub no_row : Row
no_row = record { low = 0; high = 0; name = Add; size = Byte; first = Absent; second = Absent; third = Absent; lock = false; newer = false }
