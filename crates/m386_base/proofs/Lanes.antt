-- Each byte of a value that was spread stands at its own place.
use Rattle.std.proofs.Common.{arith, ◌≡◌, ℕ, refl}
use Rattle.m386_base.specs.declared.ask.Ask.{Ask}
use Rattle.m386_base.specs.declared.split.Piece.{Piece}
use Rattle.m386_base.specs.Bytes.{bytes_of}
use Rattle.m386_base.specs.Split.{IsPiece, spread_of, lanes, byte, piece_bytes, written}
use Rattle.m386_base.proofs.Moved.{shaped, of_piece, spread_0_1, spread_0_2, spread_0_4, spread_0_8, spread_0_3, spread_0_6, spread_0_12, spread_0_14, spread_0_15, spread_1_1, spread_3_1, spread_2_3, spread_1_7}

-- a byte that was spread
pub byte_0_1_0 : (addr value : ℕ) → byte (spread_of (shaped addr 0 1) value) 0 ≡ byte value 0
unfolding lanes
byte_0_1_0 addr value = rw (spread_0_1 addr value) (omega arith)

pub byte_0_2_1 : (addr value : ℕ) → byte (spread_of (shaped addr 0 2) value) 1 ≡ byte value 0
unfolding lanes
byte_0_2_1 addr value = rw (spread_0_2 addr value) (omega arith)

pub byte_0_4_2 : (addr value : ℕ) → byte (spread_of (shaped addr 0 4) value) 2 ≡ byte value 0
unfolding lanes
byte_0_4_2 addr value = rw (spread_0_4 addr value) (omega arith)

pub byte_0_8_3 : (addr value : ℕ) → byte (spread_of (shaped addr 0 8) value) 3 ≡ byte value 0
unfolding lanes
byte_0_8_3 addr value = rw (spread_0_8 addr value) (omega arith)

pub byte_0_3_0 : (addr value : ℕ) → byte (spread_of (shaped addr 0 3) value) 0 ≡ byte value 0
unfolding lanes
byte_0_3_0 addr value = rw (spread_0_3 addr value) (omega arith)

pub byte_0_3_1 : (addr value : ℕ) → byte (spread_of (shaped addr 0 3) value) 1 ≡ byte value 1
unfolding lanes
byte_0_3_1 addr value = rw (spread_0_3 addr value) (omega arith)

pub byte_0_6_1 : (addr value : ℕ) → byte (spread_of (shaped addr 0 6) value) 1 ≡ byte value 0
unfolding lanes
byte_0_6_1 addr value = rw (spread_0_6 addr value) (omega arith)

pub byte_0_6_2 : (addr value : ℕ) → byte (spread_of (shaped addr 0 6) value) 2 ≡ byte value 1
unfolding lanes
byte_0_6_2 addr value = rw (spread_0_6 addr value) (omega arith)

pub byte_0_12_2 : (addr value : ℕ) → byte (spread_of (shaped addr 0 12) value) 2 ≡ byte value 0
unfolding lanes
byte_0_12_2 addr value = rw (spread_0_12 addr value) (omega arith)

pub byte_0_12_3 : (addr value : ℕ) → byte (spread_of (shaped addr 0 12) value) 3 ≡ byte value 1
unfolding lanes
byte_0_12_3 addr value = rw (spread_0_12 addr value) (omega arith)

pub byte_0_14_1 : (addr value : ℕ) → byte (spread_of (shaped addr 0 14) value) 1 ≡ byte value 0
unfolding lanes
byte_0_14_1 addr value = rw (spread_0_14 addr value) (omega arith)

pub byte_0_14_2 : (addr value : ℕ) → byte (spread_of (shaped addr 0 14) value) 2 ≡ byte value 1
unfolding lanes
byte_0_14_2 addr value = rw (spread_0_14 addr value) (omega arith)

pub byte_0_14_3 : (addr value : ℕ) → byte (spread_of (shaped addr 0 14) value) 3 ≡ byte value 2
unfolding lanes
byte_0_14_3 addr value = rw (spread_0_14 addr value) (omega arith)

pub byte_0_15_0 : (addr value : ℕ) → byte (spread_of (shaped addr 0 15) value) 0 ≡ byte value 0
unfolding lanes
byte_0_15_0 addr value = rw (spread_0_15 addr value) (omega arith)

pub byte_0_15_1 : (addr value : ℕ) → byte (spread_of (shaped addr 0 15) value) 1 ≡ byte value 1
unfolding lanes
byte_0_15_1 addr value = rw (spread_0_15 addr value) (omega arith)

pub byte_0_15_2 : (addr value : ℕ) → byte (spread_of (shaped addr 0 15) value) 2 ≡ byte value 2
unfolding lanes
byte_0_15_2 addr value = rw (spread_0_15 addr value) (omega arith)

pub byte_0_15_3 : (addr value : ℕ) → byte (spread_of (shaped addr 0 15) value) 3 ≡ byte value 3
unfolding lanes
byte_0_15_3 addr value = rw (spread_0_15 addr value) (omega arith)

pub byte_1_1_0 : (addr value : ℕ) → byte (spread_of (shaped addr 1 1) value) 0 ≡ byte value 1
unfolding lanes
byte_1_1_0 addr value = rw (spread_1_1 addr value) (omega arith)

pub byte_3_1_0 : (addr value : ℕ) → byte (spread_of (shaped addr 3 1) value) 0 ≡ byte value 3
unfolding lanes
byte_3_1_0 addr value = rw (spread_3_1 addr value) (omega arith)

pub byte_2_3_0 : (addr value : ℕ) → byte (spread_of (shaped addr 2 3) value) 0 ≡ byte value 2
unfolding lanes
byte_2_3_0 addr value = rw (spread_2_3 addr value) (omega arith)

pub byte_2_3_1 : (addr value : ℕ) → byte (spread_of (shaped addr 2 3) value) 1 ≡ byte value 3
unfolding lanes
byte_2_3_1 addr value = rw (spread_2_3 addr value) (omega arith)

pub byte_1_7_0 : (addr value : ℕ) → byte (spread_of (shaped addr 1 7) value) 0 ≡ byte value 1
unfolding lanes
byte_1_7_0 addr value = rw (spread_1_7 addr value) (omega arith)

pub byte_1_7_1 : (addr value : ℕ) → byte (spread_of (shaped addr 1 7) value) 1 ≡ byte value 2
unfolding lanes
byte_1_7_1 addr value = rw (spread_1_7 addr value) (omega arith)

pub byte_1_7_2 : (addr value : ℕ) → byte (spread_of (shaped addr 1 7) value) 2 ≡ byte value 3
unfolding lanes
byte_1_7_2 addr value = rw (spread_1_7 addr value) (omega arith)

-- an ask of a group
abbrev asked : Ask → ℕ → ℕ → ℕ → Ask
asked a addr enables value = record a { addr = addr; enables = enables; value = value }

abbrev Writes : ℕ → ℕ → Type 0
Writes place enables = (a : Ask) (addr value : ℕ) → bytes_of (asked a addr enables (spread_of (shaped addr place enables) value)) ≡ written value (piece_bytes (shaped addr place enables))

writes_0_1 : Writes 0 1
unfolding bytes_of lanes
writes_0_1 a addr value = rw (byte_0_1_0 addr value) refl

writes_0_2 : Writes 0 2
unfolding bytes_of lanes
writes_0_2 a addr value = rw (byte_0_2_1 addr value) refl

writes_0_4 : Writes 0 4
unfolding bytes_of lanes
writes_0_4 a addr value = rw (byte_0_4_2 addr value) refl

writes_0_8 : Writes 0 8
unfolding bytes_of lanes
writes_0_8 a addr value = rw (byte_0_8_3 addr value) refl

writes_0_3 : Writes 0 3
unfolding bytes_of lanes
writes_0_3 a addr value = rw (byte_0_3_0 addr value, byte_0_3_1 addr value) refl

writes_0_6 : Writes 0 6
unfolding bytes_of lanes
writes_0_6 a addr value = rw (byte_0_6_1 addr value, byte_0_6_2 addr value) refl

writes_0_12 : Writes 0 12
unfolding bytes_of lanes
writes_0_12 a addr value = rw (byte_0_12_2 addr value, byte_0_12_3 addr value) refl

writes_0_14 : Writes 0 14
unfolding bytes_of lanes
writes_0_14 a addr value = rw (byte_0_14_1 addr value, byte_0_14_2 addr value, byte_0_14_3 addr value) refl

writes_0_15 : Writes 0 15
unfolding bytes_of lanes
writes_0_15 a addr value = rw (byte_0_15_0 addr value, byte_0_15_1 addr value, byte_0_15_2 addr value, byte_0_15_3 addr value) refl

writes_1_1 : Writes 1 1
unfolding bytes_of lanes
writes_1_1 a addr value = rw (byte_1_1_0 addr value) refl

writes_3_1 : Writes 3 1
unfolding bytes_of lanes
writes_3_1 a addr value = rw (byte_3_1_0 addr value) refl

writes_2_3 : Writes 2 3
unfolding bytes_of lanes
writes_2_3 a addr value = rw (byte_2_3_0 addr value, byte_2_3_1 addr value) refl

writes_1_7 : Writes 1 7
unfolding bytes_of lanes
writes_1_7 a addr value = rw (byte_1_7_0 addr value, byte_1_7_1 addr value, byte_1_7_2 addr value) refl

pub writes_piece : (p : Piece) → IsPiece p → (a : Ask) (value : ℕ) → bytes_of (asked a p.addr p.enables (spread_of p value)) ≡ written value (piece_bytes p)
writes_piece p h a value = of_piece Writes (record { at_0_1 = writes_0_1; at_0_2 = writes_0_2; at_0_4 = writes_0_4; at_0_8 = writes_0_8; at_0_3 = writes_0_3; at_0_6 = writes_0_6; at_0_12 = writes_0_12; at_0_14 = writes_0_14; at_0_15 = writes_0_15; at_1_1 = writes_1_1; at_3_1 = writes_3_1; at_2_3 = writes_2_3; at_1_7 = writes_1_7 }) p h a p.addr value
