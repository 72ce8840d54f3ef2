-- The bytes of memory and of the ports, and the aligned groups of four that a cycle reads and writes.
use Rattle.std.specs.Prelude.{ℕ, ◌≡◌, ◌≤◌, ◌+◌, ◌*◌, ◌%◌, ◌^◌, ◌==◌, Bool, false, List, [], ◌∷◌, length, take, drop, ◌++◌, slice_index_or, slice_set, nat_lt, bit_and, replicate, if◌then◌else◌}
use Rattle.m386_base.specs.declared.ask.Space.{Space}
use Rattle.m386_base.specs.declared.ask.Space.TheVariants.{Memory, Port}
use Rattle.m386_base.specs.declared.ask.Role.TheVariants as roles
use Rattle.m386_base.specs.Bytes.{bytes_of}

-- the bytes of memory, and of the ports, each from address 0 on
pub record Contents : Type 0 where
  pub memory : List ℕ
  pub ports : List ℕ

-- Whole pages of memory, from one to 4,096 of them, and each of the 65,536 ports.
-- Own choice: docs/DECISIONS.md, "How much memory there is"
pub record IsSized (c : Contents) : Type 0 where
  pub pages : length c.memory % 4096 ≡ 0
  pub least : 4096 ≤ length c.memory
  pub most : length c.memory ≤ 16777216
  pub every_port : length c.ports ≡ 65536

-- as many bytes of memory, and as many ports
pub record SameSize (c d : Contents) : Type 0 where
  pub memory : length d.memory ≡ length c.memory
  pub ports : length d.ports ≡ length c.ports

-- the bytes of one space
abbrev pub space_in : Contents → Space → List ℕ
space_in c Memory = c.memory
space_in c Port = c.ports

-- The byte at a place. Past the end of memory each byte reads as ones.
-- Own choice: docs/DECISIONS.md, "Memory past its end"
abbrev pub byte_in : Contents → Space → ℕ → ℕ
byte_in c Memory a = slice_index_or c.memory a 255
byte_in c Port a = slice_index_or c.ports a 0

-- a place that holds a byte: what is written elsewhere is lost
abbrev pub holds_byte : Contents → Space → ℕ → Bool
holds_byte c s a = nat_lt a (length (space_in c s))

-- n bytes of 0
unfoldable pub zeros : ℕ → List ℕ
zeros n = replicate n 0

-- byte k of an aligned group at its place in the value, where it is enabled
abbrev pub byte_part : ℕ → ℕ → ℕ → ℕ
byte_part enables k byte = if bit_and enables (2 ^ k) == 0 then 0 else byte * 2 ^ (8 * k)

-- The value of an aligned group of four bytes: the enabled ones, the first lowest, and zeros for the others.
-- Source: Intel 80386 PRM 2.2
abbrev pub value_from : ℕ → ℕ → ℕ → ℕ → ℕ → ℕ
value_from enables b0 b1 b2 b3 = byte_part enables 0 b0 + byte_part enables 1 b1 + byte_part enables 2 b2 + byte_part enables 3 b3

-- the value of the aligned group at an address, where these are the bytes at each place
unfoldable pub group_of : (ℕ → ℕ) → ℕ → ℕ → ℕ
group_of byte addr enables = value_from enables (byte addr) (byte (addr + 1)) (byte (addr + 2)) (byte (addr + 3))

-- the value of an aligned group of one space
abbrev pub group_in : Contents → Space → ℕ → ℕ → ℕ
group_in c s addr enables = group_of (byte_in c s) addr enables

-- the enabled bytes of an aligned group that has this value, each with its place
abbrev pub group_bytes : ℕ → ℕ → ℕ → List (ℕ × ℕ)
group_bytes addr enables value = bytes_of (record { space = Memory; write = false; joined = false; role = roles.Fetch; part = 0; addr = addr; enables = enables; value = value })

-- each of these bytes is the one that stands at its place
unfoldable pub Stand : (ℕ → ℕ) → List (ℕ × ℕ) → Type 0
Stand byte [] = Unit {0}
Stand byte (b ∷ bs) = (byte b.0 ≡ b.1) × Stand byte bs

-- a list after these bytes were put at their places: where one place is named twice, the first counts, and past the end
-- of the list a byte is lost
abbrev pub with_bytes : List ℕ → List (ℕ × ℕ) → List ℕ
with_bytes xs [] = xs
with_bytes xs (b ∷ bs) = slice_set (with_bytes xs bs) b.0 b.1

-- a list after these items were put in from a place on
abbrev pub filled : List ℕ → ℕ → List ℕ → List ℕ
filled xs at ys = take at xs ++ ys ++ drop (at + length ys) xs

-- the contents after these bytes were written in one space
abbrev pub with_written : Contents → Space → List (ℕ × ℕ) → Contents
with_written c Memory bs = record c { memory = with_bytes c.memory bs }
with_written c Port bs = record c { ports = with_bytes c.ports bs }
