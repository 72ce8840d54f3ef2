-- What a string of bytes reads as: an operation and its length, a begin of one, or refused at a byte.
use Rattle.std.specs.Prelude.{ℕ, ◌+◌, ◌*◌, ◌==◌, nat_lt, not, List, [], ◌∷◌, length, take, drop, Option, Some, None, if◌then◌else◌}
use Rattle.m386_opmap.specs.declared.fields.Prefixes.{Prefixes}
use Rattle.m386_opmap.specs.declared.fields.Fields.{Fields}
use Rattle.m386_opmap.specs.declared.op.Addr.{Addr}
use Rattle.m386_opmap.specs.declared.op.Arg.{Arg}
use Rattle.m386_opmap.specs.declared.op.Arg.TheVariants.{Reg, Mem}
use Rattle.m386_opmap.specs.declared.outcome.Reading.{Reading}
use Rattle.m386_opmap.specs.declared.outcome.Reading.TheVariants.{Spelled, More, Refused}
use Rattle.m386_opmap.specs.declared.row.Row.{Row}
use Rattle.m386_opmap.specs.Forms.{top_bits, middle_bits, low, displacement, displacement_length, base_of, index_of, scale_of}
use Rattle.m386_opmap.specs.Opcodes.{opcode_rows}
use Rattle.m386_opmap.specs.Operands.{has_modrm, suits, tail_length, operation}
use Rattle.m386_opmap.specs.Prefix.{is_prefix, no_prefixes, with_prefix}
use Rattle.m386_opmap.specs.Rows.{row_at, row_of}

-- the bytes behind opcode and ModRM
unfoldable pub tail_reading : Row → Fields → ℕ → List ℕ → Reading
tail_reading r f at bytes =
    let n = tail_length r f.prefixes.narrow in
    if nat_lt (length bytes) n then More else Spelled (operation r f (take n bytes)) (at + n)

-- fields with what the ModRM byte names
abbrev pub with_place : Fields → Arg → Fields
with_place f place = record f { place = Some place }

-- a displacement of so many bytes in an address
unfoldable pub displaced_reading : Row → Fields → Addr → ℕ → ℕ → List ℕ → Reading
displaced_reading r f address n at bytes =
    if nat_lt (length bytes) n then More
    else tail_reading r (with_place f (Mem (record address { disp = displacement (take n bytes) }))) (at + n) (drop n bytes)

-- a SIB byte
unfoldable pub sib_reading : Row → Fields → ℕ → ℕ → List ℕ → Reading
sib_reading r f mode at [] = More
sib_reading r f mode at (s ∷ bytes) =
    displaced_reading r f
    (record { seg = f.prefixes.seg; base = base_of mode (low s); index = index_of s; scale = scale_of s; disp = 0 })
    (displacement_length mode (low s)) (at + 1) bytes

-- what the ModRM byte names
unfoldable pub form_reading : Row → Fields → ℕ → ℕ → List ℕ → Reading
form_reading r f m at bytes =
    if top_bits m == 3 then tail_reading r (with_place f (Reg (low m))) at bytes
    else if low m == 4 then sib_reading r f (top_bits m) at bytes
    else displaced_reading r f
    (record { seg = f.prefixes.seg; base = base_of (top_bits m) (low m); index = None; scale = 1; disp = 0 })
    (displacement_length (top_bits m) (low m)) at bytes

-- the row that a ModRM byte selects
abbrev pub selected_reading : Option Row → Fields → ℕ → ℕ → List ℕ → Reading
selected_reading None f m at bytes = Refused at
selected_reading (Some r) f m at bytes =
    if suits r f.prefixes.lock (not (top_bits m == 3)) then form_reading r f m (at + 1) bytes else Refused at

-- a ModRM byte
unfoldable pub modrm_reading : List Row → Prefixes → ℕ → ℕ → List ℕ → Reading
modrm_reading rows said opcode at [] = More
modrm_reading rows said opcode at (m ∷ bytes) =
    selected_reading (row_at (8 * opcode + middle_bits m) rows)
    (record { prefixes = said; opcode = opcode; middle = middle_bits m; place = None }) m at bytes

-- what stands behind the opcode of a row
abbrev pub begun_reading : Option Row → List Row → Prefixes → ℕ → ℕ → List ℕ → Reading
begun_reading None rows said opcode at bytes = Refused at
begun_reading (Some r) rows said opcode at bytes =
    if has_modrm r then modrm_reading rows said opcode (at + 1) bytes
    else tail_reading r (record { prefixes = said; opcode = opcode; middle = 0; place = None }) (at + 1) bytes

-- an opcode whose last byte stands at this place
unfoldable pub opcode_reading : List Row → Prefixes → ℕ → ℕ → List ℕ → Reading
opcode_reading rows said opcode at bytes = begun_reading (row_of said.lock opcode rows) rows said opcode at bytes

-- the second byte of an opcode
unfoldable pub second_reading : List Row → Prefixes → ℕ → List ℕ → Reading
second_reading rows said at [] = More
second_reading rows said at (b ∷ bytes) = opcode_reading rows said (0xf00 + b) at bytes

-- the first byte of an opcode
unfoldable pub first_reading : List Row → Prefixes → ℕ → ℕ → List ℕ → Reading
first_reading rows said b at bytes =
    if b == 0x0f then second_reading rows said (at + 1) bytes else opcode_reading rows said b at bytes

-- the bytes behind prefixes
unfoldable pub prefixed_reading : List Row → Prefixes → ℕ → List ℕ → Reading
prefixed_reading rows said at [] = More
prefixed_reading rows said at (b ∷ bytes) =
    if is_prefix b then prefixed_reading rows (with_prefix said b) (at + 1) bytes else first_reading rows said b at bytes

-- What bytes read as by a table of rows: the operation that they begin with, and its length; More where they are a proper
-- begin; Refused at the first byte after which no operation begins so.
-- Own choice: docs/DECISIONS.md, "Where bytes are refused"
unfoldable pub reading_by : List Row → List ℕ → Reading
reading_by rows bytes = prefixed_reading rows no_prefixes 0 bytes

-- What bytes read as by the opcodes of the machine.
-- Own choice: docs/DECISIONS.md, "Where bytes are refused"
unfoldable pub reading_of : List ℕ → Reading
reading_of bytes = reading_by opcode_rows bytes
