-- The bytes by which a row would spell an operation.
use Rattle.std.specs.Prelude.{ℕ, ◌+◌, ◌-◌, ◌*◌, ◌/◌, ◌%◌, ◌==◌, zero, suc, Bool, true, false, ◌&&◌, not, nat_lt, List, [], ◌∷◌, ◌++◌, get_or, Option, Some, None, if◌then◌else◌}
use Rattle.m386_base.specs.declared.number.Width.{Width}
use Rattle.m386_opmap.specs.declared.op.Addr.{Addr}
use Rattle.m386_opmap.specs.declared.op.Arg.{Arg}
use Rattle.m386_opmap.specs.declared.op.Arg.TheVariants.{Reg, Seg, Imm, Mem, Rel, Far}
use Rattle.m386_opmap.specs.declared.op.Arg.TheVariants as args
use Rattle.m386_opmap.specs.declared.op.Op.{Op}
use Rattle.m386_opmap.specs.declared.op.Rep.{Rep}
use Rattle.m386_opmap.specs.declared.op.Rep.TheVariants.{Once, Equal, NotEqual}
use Rattle.m386_opmap.specs.declared.row.Operand.{Operand}
use Rattle.m386_opmap.specs.declared.row.Operand.TheVariants.{E, M, R, G, S, Low}
use Rattle.m386_opmap.specs.declared.row.Row.{Row}
use Rattle.m386_opmap.specs.Forms.{displacement_length}
use Rattle.m386_opmap.specs.Operands.{operand_length}

-- so many bytes of a number, the lowest first
unfoldable pub low_bytes : ℕ → ℕ → List ℕ
low_bytes zero n = []
low_bytes (suc count) n = n % 256 ∷ low_bytes count (n / 256)

-- the operand at a place of a list
abbrev pub operand : ℕ → List Arg → Arg
operand i items = get_or items i args.Cr0

-- the segment register that the first memory operand names
unfoldable pub named_segment : List Arg → Option ℕ
named_segment [] = None
named_segment (Mem a ∷ items) = a.seg
named_segment (item ∷ items) = named_segment items

-- the prefix of a segment register
abbrev pub segment_prefix : Option ℕ → List ℕ
segment_prefix None = []
segment_prefix (Some n) =
    if n == 0 then 0x26 ∷ [] else if n == 1 then 0x2e ∷ [] else if n == 2 then 0x36 ∷ []
    else if n == 3 then 0x3e ∷ [] else if n == 4 then 0x64 ∷ [] else if n == 5 then 0x65 ∷ [] else []

-- the prefix of a repetition
abbrev pub rep_prefix : Rep → List ℕ
rep_prefix Once = []
rep_prefix Equal = 0xf3 ∷ []
rep_prefix NotEqual = 0xf2 ∷ []

-- a byte where it is wanted
abbrev pub byte_if : Bool → ℕ → List ℕ
byte_if wanted b = if wanted then b ∷ [] else []

-- the prefixes of an operation, rising, with 66h or without
unfoldable pub prefixes : Op → Bool → List ℕ
prefixes op narrow =
    ((segment_prefix (named_segment op.args.items) ++ byte_if narrow 0x66) ++ byte_if op.lock 0xf0) ++ rep_prefix op.rep

-- the number of a register, general or segment
abbrev pub register : Arg → ℕ
register (Reg n) = n % 8
register (Seg n) = n % 8
register _ = 0

-- whether an operand is the opcode's low three bits
abbrev pub is_low : Operand → Bool
is_low Low = true
is_low _ = false

-- whether an operand is the middle bits of the ModRM byte
abbrev pub is_middle : Operand → Bool
is_middle G = true
is_middle S = true
is_middle _ = false

-- whether an operand is what the ModRM byte names
abbrev pub is_place : Operand → Bool
is_place E = true
is_place M = true
is_place R = true
is_place _ = false

-- the bytes of an opcode
abbrev pub key_bytes : ℕ → List ℕ
key_bytes o = if nat_lt o 256 then o ∷ [] else 0x0f ∷ (o % 256) ∷ []

-- the opcode, of those of a row
unfoldable pub opcode : Row → List Arg → ℕ
opcode r items =
    if is_low r.first then r.low / 64 * 8 + register (operand 0 items)
    else if is_low r.second then r.low / 64 * 8 + register (operand 1 items) else r.low / 8

-- the middle bits of the ModRM byte
unfoldable pub middle_of : Row → List Arg → ℕ
middle_of r items =
    if is_middle r.first then register (operand 0 items) else if is_middle r.second then register (operand 1 items) else r.low % 8

-- the base as the low three bits of the ModRM or SIB byte, 5 for none
abbrev pub base : Option ℕ → ℕ
base None = 5
base (Some n) = n % 8

-- the mode, which without a base is 0
abbrev pub mode_of : Option ℕ → ℕ → ℕ
mode_of None mode = 0
mode_of (Some n) mode = mode % 3

-- the index as the middle bits of the SIB byte, 4 for none
abbrev pub index : Option ℕ → ℕ
index None = 4
index (Some n) = n % 8

-- the scale as the top bits of the SIB byte
abbrev pub scale : ℕ → ℕ
scale n = if n == 8 then 3 else if n == 4 then 2 else if n == 2 then 1 else 0

-- the ModRM byte and, where it is wanted, the SIB byte of an address
unfoldable pub address_bytes : ℕ → ℕ → Addr → List ℕ
address_bytes mid mode a =
    if index a.index == 4 && not (base a.base == 4) then (64 * mode_of a.base mode + 8 * mid + base a.base) ∷ []
    else (64 * mode_of a.base mode + 8 * mid + 4) ∷ (64 * scale a.scale + 8 * index a.index + base a.base) ∷ []

-- ModRM byte, SIB byte and displacement of what the ModRM byte names, by the mode
unfoldable pub place_bytes : ℕ → ℕ → Arg → List ℕ
place_bytes mid mode (Reg n) = (192 + 8 * mid + n % 8) ∷ []
place_bytes mid mode (Mem a) = address_bytes mid mode a ++ low_bytes (displacement_length (mode_of a.base mode) (base a.base)) a.disp
place_bytes mid mode _ = []

-- the bytes between opcode and tail
unfoldable pub form_bytes : Row → ℕ → List Arg → List ℕ
form_bytes r mode items =
    if is_place r.first then place_bytes (middle_of r items) mode (operand 0 items)
    else if is_place r.second then place_bytes (middle_of r items) mode (operand 1 items) else []

-- so many bytes of an operand behind opcode and ModRM
unfoldable pub operand_bytes : ℕ → Arg → List ℕ
operand_bytes n (Imm v) = low_bytes n v
operand_bytes n (Rel v) = low_bytes n v
operand_bytes n (Mem a) = low_bytes n a.disp
operand_bytes n (Far selector offset) = low_bytes (n - 2) offset ++ low_bytes (n - (n - 2)) selector
operand_bytes n _ = []

-- the bytes behind opcode and ModRM
unfoldable pub tail_bytes : Row → Width → List Arg → List ℕ
tail_bytes r w items =
    if operand_length w r.first == 0
    then (if operand_length w r.second == 0 then operand_bytes (operand_length w r.third) (operand 2 items)
    else operand_bytes (operand_length w r.second) (operand 1 items))
    else operand_bytes (operand_length w r.first) (operand 0 items)

-- The bytes by which a row would spell an operation, with 66h or without, and with a displacement by the mode.
-- Source: Intel 80386 PRM 17.2.1
unfoldable pub candidate : Op → Row → Bool → ℕ → List ℕ
candidate op r narrow mode =
    ((prefixes op narrow ++ key_bytes (opcode r op.args.items)) ++ form_bytes r mode op.args.items) ++ tail_bytes r op.width op.args.items
