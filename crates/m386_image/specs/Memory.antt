-- The memory that a machine begins with.
use Rattle.std.specs.Prelude.{ℕ, ◌+◌, ◌-◌, Bool, ◌&&◌, if◌then◌else◌, nat_lt, nat_le, List, [], ◌∷◌, ◌++◌, length, take, drop, slice_index, replicate}
use Rattle.m386_image.specs.declared.image.Image.{Image}
use Rattle.m386_image.specs.declared.image.Section.{Section}

-- whether a section has the byte at this place of the memory
abbrev pub covers : Section → ℕ → Bool
covers s place = nat_le s.addr place && nat_lt place (s.addr + length s.bytes)

-- the byte at a place where these sections stand in zeros
abbrev pub byte_of_sections : List Section → ℕ → ℕ
byte_of_sections [] place = 0
byte_of_sections (s ∷ ss) place = if covers s place then slice_index s.bytes (place - s.addr) else byte_of_sections ss place

-- The byte at a place of the memory of an image: that of the section which covers the place, else 0.
-- Own choice: docs/DECISIONS.md, "The image file"
abbrev pub byte_of_image : Image → ℕ → ℕ
byte_of_image image place = byte_of_sections image.sections place

-- a memory of zeros
abbrev pub blank_memory : ℕ → List ℕ
blank_memory size = replicate size 0

-- A memory in which these bytes stand from a place on.
abbrev pub fill : ℕ → List ℕ → List ℕ → List ℕ
fill place bytes memory = take place memory ++ bytes ++ drop (place + length bytes) memory

-- A memory in which these sections stand, one put there after the other.
abbrev pub fill_all : List Section → List ℕ → List ℕ
fill_all [] memory = memory
fill_all (s ∷ ss) memory = fill_all ss (fill s.addr s.bytes memory)
