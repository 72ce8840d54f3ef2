-- The bytes of a cycle.
use Rattle.std.specs.Prelude.{◌≡◌, ℕ, ◌+◌, ◌-◌, ◌*◌, ◌/◌, ◌%◌, ◌^◌, ◌==◌, ◌&&◌, ◌⊎◌, not, Bool, if◌then◌else◌, bit_and, List, [], ◌∷◌, ◌++◌, Option, Some, None}
use Rattle.std.specs.List.{list_any}
use Rattle.m386_base.specs.declared.ask.Ask.{Ask}
use Rattle.m386_base.specs.declared.ask.Space.{Space}
use Rattle.m386_base.specs.declared.ask.Space.TheVariants as spaces

-- byte k of a group: its place in the space and its value, where it is enabled
abbrev pub byte_of : Ask → ℕ → List (ℕ × ℕ)
byte_of a k = if bit_and a.enables (2 ^ k) == 0 then [] else (a.addr + k, a.value / 2 ^ (8 * k) % 256) ∷ []

-- The enabled bytes of a cycle, each with its place in the space, rising.
-- Own choice: docs/DECISIONS.md, "The form of a bus cycle"
unfoldable pub bytes_of : Ask → List (ℕ × ℕ)
bytes_of a = byte_of a 0 ++ byte_of a 1 ++ byte_of a 2 ++ byte_of a 3

-- what stands at a place among bytes with their places
abbrev pub byte_at_place : List (ℕ × ℕ) → ℕ → Option ℕ
byte_at_place [] a = None
byte_at_place (b ∷ bs) a = if b.0 == a then Some b.1 else byte_at_place bs a

-- a byte stands at a place among bytes with their places
abbrev pub Has : List (ℕ × ℕ) → ℕ → ℕ → Type 0
Has [] a b = ⊥
Has (x ∷ xs) a b = ((x.0 ≡ a) × (x.1 ≡ b)) ⊎ Has xs a b

-- the bytes of a cycle in memory
abbrev pub bytes_in : Space → List (ℕ × ℕ) → List (ℕ × ℕ)
bytes_in spaces.Memory bs = bs
bytes_in spaces.Port bs = []

abbrev pub heard : Ask → List (ℕ × ℕ)
heard t = bytes_in t.space (bytes_of t)

-- the place of the first of some bytes
abbrev pub first_place : List (ℕ × ℕ) → ℕ
first_place [] = 0
first_place (b ∷ bs) = b.0

-- The place in its access of a byte at this place: that of the cycle's first byte, which is the cycle's part, and how
-- far the byte lies above that first byte.
-- Own choice: docs/DECISIONS.md, "The form of a bus cycle"
abbrev pub place_in_access : ℕ → ℕ → ℕ → ℕ
place_in_access part first place = part + (place - first)

-- NT, bit 14 of the flags: bit 6 of the byte at place 1 of their image.
-- Source: Intel 80386 PRM 2.3.4.1
abbrev pub is_nt_byte : ℕ → ℕ → (ℕ × ℕ) → Bool
is_nt_byte part first b = (place_in_access part first b.0 == 1) && not (bit_and b.1 0x40 == 0)

-- NT is set in the image of the flags that a cycle is a part of, by a byte of this cycle.
-- Source: Intel 80386 PRM 2.3.4.1
unfoldable pub has_nt : Ask → Bool
has_nt a = list_any (is_nt_byte a.part (first_place (bytes_of a))) (bytes_of a)
