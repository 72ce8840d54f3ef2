-- The spelling of an operation.
use Rattle.std.specs.Prelude.{ℕ, ◌≡◌, ◌+◌, ◌-◌, ◌*◌, ◌<◌, ◌≤◌, nat_lt, true, List, [], ◌∷◌, ◌++◌, length, take, All, Contains, Option, is_some, if◌then◌else◌}
use Rattle.std.specs.List.{AllPass}
use Rattle.m386_opmap.specs.declared.op.Arg.{Arg}
use Rattle.m386_opmap.specs.declared.op.Op.{Op}
use Rattle.m386_opmap.specs.declared.outcome.Reading.{Reading}
use Rattle.m386_opmap.specs.declared.outcome.Reading.TheVariants.{Spelled, More, Refused}
use Rattle.m386_opmap.specs.declared.row.Row.{Row}
use Rattle.m386_opmap.specs.Forms.{Form}
use Rattle.m386_opmap.specs.Opcodes.{opcode_rows}
use Rattle.m386_opmap.specs.Operands.{has_modrm, suits, is_memory, tail_length, operation}
use Rattle.m386_opmap.specs.Prefix.{is_prefix, prefixes_of}
use Rattle.m386_opmap.specs.Rows.{Covers}

-- the bytes of an opcode, by its number
abbrev pub opcode_bytes : ℕ → List ℕ
opcode_bytes opcode = if nat_lt opcode 256 then opcode ∷ [] else 0x0f ∷ (opcode - 0xf00) ∷ []

-- A spelling of an operation by the rows of a table: prefixes, an opcode, what the ModRM byte names with its SIB byte and
-- displacement, and the bytes behind them.
-- Source: Intel 80386 PRM 17.2.1
pub record SpelledBy (rows : List Row) (op : Op) (bytes : List ℕ) : Type 0 where
  -- a row of the table
  pub row : Row
  pub listed : Contains rows row
  -- the bytes are these four parts
  pub prefixes : List ℕ
  pub opcode : ℕ
  pub modrm : List ℕ
  pub tail : List ℕ
  pub parts : bytes ≡ prefixes ++ (opcode_bytes opcode ++ (modrm ++ tail))
  pub are_bytes : All (λ b. b < 256) bytes
  pub are_prefixes : AllPass is_prefix prefixes
  -- the ModRM byte is there exactly where the row has one, and its middle bits and the opcode are the row's
  pub middle : ℕ
  pub place : Option Arg
  pub form : Form (prefixes_of prefixes).seg modrm middle place
  pub wanted : has_modrm row ≡ is_some place
  pub covered : Covers row (8 * opcode + middle)
  -- the row takes LOCK and what the ModRM byte names
  pub suited : suits row (prefixes_of prefixes).lock (is_memory place) ≡ true
  -- the bytes behind are all that the row's operands have
  pub whole : length tail ≡ tail_length row (prefixes_of prefixes).narrow
  pub spelled : op ≡ operation row (record { prefixes = prefixes_of prefixes; opcode = opcode; middle = middle; place = place }) tail

-- A spelling of an operation, by the opcodes of the machine.
-- Source: Intel 80386 PRM 17.2.1 and appendix A
abbrev pub Spells : Op → List ℕ → Type 0
Spells op bytes = SpelledBy opcode_rows op bytes

-- some spelling begins with these bytes
pub record BeginsSpelling (bytes : List ℕ) : Type 0 where
  pub op : Op
  pub rest : List ℕ
  pub spelled : Spells op (bytes ++ rest)

-- no spelling stands at the front of these bytes
abbrev pub HasNoSpelling : List ℕ → Type 0
HasNoSpelling bytes = (op : Op) (front rest : List ℕ) → bytes ≡ front ++ rest → Spells op front → ⊥

-- What an answer says of bytes: a spelling stands at their front; or they begin one and have none yet; or they have none, and
-- the byte at this place is the first after which no spelling begins so.
-- Own choice: docs/DECISIONS.md, "Where bytes are refused"
abbrev pub IsReadingOf : List ℕ → Reading → Type 0
IsReadingOf bytes (Spelled op len) = (len ≤ length bytes) × Spells op (take len bytes)
IsReadingOf bytes More = HasNoSpelling bytes × BeginsSpelling bytes
IsReadingOf bytes (Refused at) =
    HasNoSpelling bytes × ((at < length bytes) × (BeginsSpelling (take at bytes) × (BeginsSpelling (take (at + 1) bytes) → ⊥)))
