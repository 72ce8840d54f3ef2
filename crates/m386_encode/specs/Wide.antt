-- The wide spellings of an operation: those whose displacements, immediates and distances have their full size.
use Rattle.std.specs.Prelude.{ℕ, ◌≡◌, ◌≤◌, Bool, true, false, ◌&&◌, not, List, length, Option, Some, None}
use Rattle.std.specs.List.{Contains}
use Rattle.arrayvec.specs.ArrayVec.{ArrayVec}
use Rattle.m386_opmap.specs.declared.name.Name.{Name}
use Rattle.m386_opmap.specs.declared.name.Name.TheVariants.{Loopnz, Loopz, Loop, Jecxz}
use Rattle.m386_opmap.specs.declared.op.Arg.{Arg}
use Rattle.m386_opmap.specs.declared.op.Op.{Op}
use Rattle.m386_opmap.specs.declared.row.Operand.{Operand}
use Rattle.m386_opmap.specs.declared.row.Operand.TheVariants.{SignedByte, Jb, One}
use Rattle.m386_opmap.specs.declared.row.Row.{Row}
use Rattle.m386_opmap.specs.Forms.{Form, absent, register, based, indexed}
use Rattle.m386_opmap.specs.Opcodes.{opcode_rows}
use Rattle.m386_opmap.specs.Spelling.{Spells}
use Rattle.m386_encode.specs.Candidates.{candidate}
use Rattle.m386_encode.specs.Order.{is_before}
use Rattle.m386_encode.specs.Shortest.{IsSpelling, IsReached}

-- the jumps whose distance has one byte in each of their opcodes
abbrev pub is_always_near : Name → Bool
is_always_near Loopnz = true
is_always_near Loopz = true
is_always_near Loop = true
is_always_near Jecxz = true
is_always_near _ = false

-- whether an operand has fewer bytes than in another opcode of the same name: an immediate extended from a byte, the count 1
-- that has none, and a distance of a byte
abbrev pub is_brief : Name → Operand → Bool
is_brief name SignedByte = true
is_brief name One = true
is_brief name Jb = not (is_always_near name)
is_brief name _ = false

-- Whether each operand of a row has its full size.
-- Own choice: docs/DECISIONS.md, "Which spelling is written"
abbrev pub is_full : Row → Bool
is_full r = not (is_brief r.name r.first) && not (is_brief r.name r.second) && not (is_brief r.name r.third)

-- a full row of the same name and size
pub record HasFullRow (r : Row) : Type 0 where
  pub row : Row
  pub listed : Contains opcode_rows row
  pub full : is_full row ≡ true
  pub named : row.name ≡ r.name
  pub sized : row.size ≡ r.size

-- the displacement, if the ModRM byte names memory, has four bytes
abbrev pub HasWholeDisplacement : {seg : Option ℕ} {bytes : List ℕ} {mid : ℕ} {place : Option Arg} → Form seg bytes mid place → Type 0
HasWholeDisplacement absent = Unit {0}
HasWholeDisplacement (register m t) = Unit {0}
HasWholeDisplacement (based m ds t n h) = length ds ≡ 4
HasWholeDisplacement (indexed m s ds t l h) = length ds ≡ 4

-- The bytes spell the operation with each displacement, immediate and distance of full size.
-- Own choice: docs/DECISIONS.md, "Which spelling is written"
pub record IsWide (op : Op) (bytes : List ℕ) : Type 0 where
  pub spells : Spells op bytes
  pub full : is_full spells.row ≡ true
  pub displaced : HasWholeDisplacement spells.form

-- The bytes are a wide spelling of the operation, and no wide spelling of it is shorter, or as long and less.
-- Own choice: docs/DECISIONS.md, "Which spelling is written"
pub record IsShortestWide (op : Op) (bytes : List ℕ) : Type 0 where
  pub wide : IsWide op bytes
  pub first : (other : List ℕ) → IsWide op other → is_before other bytes ≡ false

-- there are bytes, and they are a wide spelling
abbrev pub IsWideSound : Op → Option (ArrayVec ℕ) → Type 0
IsWideSound op None = Unit {0}
IsWideSound op (Some best) = IsWide op best.items

-- the wide bytes by which the row would spell the operation, with 66h or without, come not before the best, where they do spell it
abbrev pub IsMetBy : Op → Option (ArrayVec ℕ) → Row → Bool → Type 0
IsMetBy op best row narrow = length (candidate op row narrow 2) ≤ 15 → IsSpelling op (candidate op row narrow 2) → IsReached best (candidate op row narrow 2)

-- neither of the wide bytes of a row comes before the best
pub record IsMetWide (op : Op) (best : Option (ArrayVec ℕ)) (row : Row) : Type 0 where
  pub met : (narrow : Bool) → IsMetBy op best row narrow

-- the row is full and has the operation's name
pub record IsOffered (op : Op) (row : Row) : Type 0 where
  pub named : row.name ≡ op.name
  pub full : is_full row ≡ true
