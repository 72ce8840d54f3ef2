-- The task state segments of an image: which descriptors of its GDT are of one, and where it lies.
use Rattle.std.specs.Prelude.{◌≡◌, ℕ, ◌+◌, ◌*◌, ◌/◌, ◌%◌, ◌^◌, ◌<◌, ◌≤◌, ◌==◌, ◌&&◌, ◌||◌, ◌⊎◌, true, nat_le, Bool, List, length, slice_index}
use Rattle.m386_image.specs.declared.image.Image.{Image}
use Rattle.m386_image.specs.declared.image.TableAt.{TableAt}
use Rattle.m386_image.specs.Memory.{byte_of_image}

-- A number that a descriptor of a table has: from 1, since the first is the null descriptor, with all its bytes in the
-- table. Its selector, with RPL 0, is eight times the number.
-- Source: Intel 80386 PRM 5.1.1
abbrev pub IsNumber : TableAt → ℕ → Type 0
IsNumber table number = (1 ≤ number) × (number * 8 + 7 ≤ table.limit)

-- byte k of a descriptor among the bytes of a table
abbrev pub entry_byte : List ℕ → ℕ → ℕ → ℕ
entry_byte table number k = slice_index table (number * 8 + k)

-- byte k of a descriptor of the image's GDT
unfoldable pub descriptor_byte : Image → ℕ → ℕ → ℕ
descriptor_byte image number k = byte_of_image image (image.gdt.base + (number * 8 + k))

-- The access byte of a TSS that is present: P is set, S is clear, and the type is 9 where the TSS is available and 11 where
-- it is busy.
-- Source: Intel 80386 PRM 7.2
abbrev pub is_tss_access : ℕ → Bool
is_tss_access access = (access / 2 ^ 7 == 1) && ((access % 2 ^ 5 == 9) || (access % 2 ^ 5 == 11))

-- The base that these four bytes of a descriptor are, bytes 2, 3, 4 and 7.
-- Source: Intel 80386 PRM 5.1.1
abbrev pub base_from : ℕ → ℕ → ℕ → ℕ → ℕ
base_from b2 b3 b4 b7 = b2 + b3 * 2 ^ 8 + b4 * 2 ^ 16 + b7 * 2 ^ 24

-- The descriptor of this number in the image's GDT is of a TSS that is present.
-- Own choice: docs/DECISIONS.md, "The verdict"
pub record IsTss (image : Image) (number : ℕ) : Type 0 where
  pub within : IsNumber image.gdt number
  pub access : is_tss_access (descriptor_byte image number 5) ≡ true

-- The TSS is busy: type 11.
-- Source: Intel 80386 PRM 7.2
pub record IsBusyTss (image : Image) (number : ℕ) : Type 0 where
  pub tss : IsTss image number
  pub type_is : descriptor_byte image number 5 % 2 ^ 5 ≡ 11

-- where a TSS lies
abbrev pub tss_base : Image → ℕ → ℕ
tss_base image number =
    base_from (descriptor_byte image number 2) (descriptor_byte image number 3) (descriptor_byte image number 4) (descriptor_byte image number 7)

-- A place in one of the 104 bytes from a base on that a TSS has at least.
-- Source: Intel 80386 PRM 7.1
pub record IsInSegment (base place : ℕ) : Type 0 where
  pub from : base ≤ place
  pub before : place < base + 104

-- a place in the segment of a TSS of the image
pub record IsOfTss (image : Image) (number place : ℕ) : Type 0 where
  pub tss : IsTss image number
  pub at : IsInSegment (tss_base image number) place

-- a place among the bytes of a table, from its base to its base and limit
pub record IsOfTable (table : TableAt) (place : ℕ) : Type 0 where
  pub from : table.base ≤ place
  pub upto : place ≤ table.base + table.limit

-- these are the bytes of the image's GDT
pub record IsTable (image : Image) (table : List ℕ) : Type 0 where
  pub len : length table ≡ image.gdt.limit + 1
  pub bytes : (i : ℕ) → i ≤ image.gdt.limit → slice_index table i ≡ byte_of_image image (image.gdt.base + i)
