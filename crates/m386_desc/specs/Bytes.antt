-- The eight bytes of a descriptor, and the numbers that stand in them.
use Rattle.std.specs.Prelude.{ℕ, ◌+◌, ◌*◌, ◌/◌, ◌%◌, ◌^◌, List, [], ◌∷◌, ◌++◌, slice_index}
use Rattle.m386_base.specs.declared.desc.Desc.{Desc}
use Rattle.m386_base.specs.Descriptor.{descriptor}

-- the four bytes of a doubleword, the low one first
abbrev pub doubleword : ℕ → List ℕ
doubleword n = n % 2 ^ 8 ∷ n / 2 ^ 8 % 2 ^ 8 ∷ n / 2 ^ 16 % 2 ^ 8 ∷ n / 2 ^ 24 % 2 ^ 8 ∷ []

-- the eight bytes of two doublewords, the low one first
unfoldable pub two_doublewords : ℕ → ℕ → List ℕ
two_doublewords lo hi = doubleword lo ++ doubleword hi

-- The descriptor that stands in eight bytes: the base in bytes 2, 3, 4 and 7; the limit in bytes 0 and 1 and in the low
-- half of byte 6; the access byte in byte 5; the flags in the high half of byte 6.
-- Source: Intel 80386 PRM 5.1.1
unfoldable pub descriptor_in : List ℕ → Desc
descriptor_in bytes =
    descriptor (byte 2 + byte 3 * 2 ^ 8 + byte 4 * 2 ^ 16 + byte 7 * 2 ^ 24) (byte 0 + byte 1 * 2 ^ 8 + byte 6 % 2 ^ 4 * 2 ^ 16)
    (byte 5) (byte 6 / 2 ^ 4)
  where
    byte : ℕ → ℕ
    byte k = slice_index bytes k

-- The eight bytes in which a descriptor stands.
-- Source: Intel 80386 PRM 5.1.1
unfoldable pub descriptor_bytes : Desc → List ℕ
descriptor_bytes d =
    d.raw_limit % 2 ^ 8 ∷ d.raw_limit / 2 ^ 8 % 2 ^ 8 ∷ d.base % 2 ^ 8 ∷ d.base / 2 ^ 8 % 2 ^ 8 ∷ d.base / 2 ^ 16 % 2 ^ 8
    ∷ d.access ∷ (d.raw_limit / 2 ^ 16 + d.flags * 2 ^ 4) ∷ d.base / 2 ^ 24 ∷ []
