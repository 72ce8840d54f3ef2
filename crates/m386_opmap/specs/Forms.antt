-- The ModRM byte with its SIB byte and displacement, and the numbers in an instruction.
use Rattle.std.specs.Prelude.{ℕ, ◌+◌, ◌-◌, ◌*◌, ◌/◌, ◌%◌, ◌^◌, ◌==◌, ◌≡◌, ◌≢◌, nat_lt, ◌&&◌, List, [], ◌∷◌, length, Option, Some, None, if◌then◌else◌}
use Rattle.m386_base.specs.declared.number.Width.{Width}
use Rattle.m386_base.specs.declared.number.Width.TheVariants.{W8, W16, W32}
use Rattle.m386_opmap.specs.declared.op.Arg.{Arg}
use Rattle.m386_opmap.specs.declared.op.Arg.TheVariants.{Reg, Mem}

-- how many bits a width has
abbrev pub width_bits : Width → ℕ
width_bits W8 = 8
width_bits W16 = 16
width_bits W32 = 32

-- how many bytes a width has
abbrev pub width_bytes : Width → ℕ
width_bytes W8 = 1
width_bytes W16 = 2
width_bytes W32 = 4

-- the number that bytes make, the lowest first
unfoldable pub number : List ℕ → ℕ
number [] = 0
number (b ∷ bs) = b + 256 * number bs

-- a number of one width as one of another, with its sign in the upper bits
unfoldable pub extended : Width → Width → ℕ → ℕ
extended from to n = if nat_lt n (2 ^ (width_bits from - 1)) then n else n + (2 ^ width_bits to - 2 ^ width_bits from)

-- a displacement of one byte has its sign, one of four bytes is whole, and none is 0
unfoldable pub displacement : List ℕ → ℕ
displacement ds = if length ds == 1 then extended W8 W32 (number ds) else number ds

-- the top two bits of a ModRM byte, mod, or of a SIB byte, the scale
abbrev pub top_bits : ℕ → ℕ
top_bits m = m / 64

-- the middle three bits of a ModRM byte, reg or /n, or of a SIB byte, the index
abbrev pub middle_bits : ℕ → ℕ
middle_bits m = m / 8 % 8

-- the low three bits of a ModRM byte, r/m, or of a SIB byte, the base
abbrev pub low : ℕ → ℕ
low m = m % 8

-- how many bytes of displacement there are, by mod and the base
abbrev pub displacement_length : ℕ → ℕ → ℕ
displacement_length mode base = if mode == 0 then (if base == 5 then 4 else 0) else if mode == 1 then 1 else 4

-- the base register, by mod and the base: with mod 0 a base of 5 is none
abbrev pub base_of : ℕ → ℕ → Option ℕ
base_of mode base = if (mode == 0) && (base == 5) then None else Some base

-- the index register of a SIB byte: 4 is none
abbrev pub index_of : ℕ → Option ℕ
index_of s = if middle_bits s == 4 then None else Some (middle_bits s)

-- the scale of a SIB byte, which without an index is 1
abbrev pub scale_of : ℕ → ℕ
scale_of s = if middle_bits s == 4 then 1 else 2 ^ top_bits s

-- What bytes between an opcode and its immediate name, under a segment prefix: nothing, or a register or memory with the
-- middle bits of the ModRM byte beside it.
-- Source: Intel 80386 PRM 17.2.1, tables 17-3 and 17-4
pub data Form (seg : Option ℕ) : List ℕ → ℕ → Option Arg → Type 0 where
  -- no ModRM byte
  absent : Form seg [] 0 None
  -- mod 3: the register of r/m
  register : (m : ℕ) → top_bits m ≡ 3 → Form seg (m ∷ []) (middle_bits m) (Some (Reg (low m)))
  -- another mod, and no SIB byte: r/m is the base
  based : (m : ℕ) (ds : List ℕ) → top_bits m ≢ 3 → low m ≢ 4 → length ds ≡ displacement_length (top_bits m) (low m) →
      Form seg (m ∷ ds) (middle_bits m) (Some (Mem (record { seg = seg; base = base_of (top_bits m) (low m); index = None; scale = 1; disp = displacement ds })))
  -- another mod, and r/m 4: a SIB byte with scale, index and base
  indexed : (m s : ℕ) (ds : List ℕ) → top_bits m ≢ 3 → low m ≡ 4 → length ds ≡ displacement_length (top_bits m) (low s) →
      Form seg (m ∷ s ∷ ds) (middle_bits m) (Some (Mem (record { seg = seg; base = base_of (top_bits m) (low s); index = index_of s; scale = scale_of s; disp = displacement ds })))
