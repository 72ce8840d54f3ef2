-- The image file: the places of its fields, and the image that its bytes are.
use Rattle.std.specs.Prelude.{◌≡◌, ℕ, zero, suc, Bool, true, ◌&&◌, nat_le, ◌+◌, ◌*◌, ◌/◌, ◌%◌, ◌^◌, ◌<◌, ◌≤◌, ◌==◌, if◌then◌else◌, nat_lt, List, [], ◌∷◌, ◌++◌, length, take, drop, map, slice_index, codes}
use Rattle.std.specs.Int.{w16, w32, to_le_bytes, from_le_bytes}
use Rattle.std.specs.List.{flat_map, range_with_len, AllByRecursion}
use Rattle.m386_image.specs.declared.image.Image.{Image}
use Rattle.m386_image.specs.declared.image.Planned.{Planned}
use Rattle.m386_image.specs.declared.image.TableAt.{TableAt}
use Rattle.m386_image.specs.declared.image.Section.{Section}

-- ---- numbers

-- each of these is a byte
abbrev pub AreBytes : List ℕ → Type 0
AreBytes bytes = (i : ℕ) → slice_index bytes i < 256

-- The number of two bytes from a place on, the lowest byte first.
-- Source: Intel 80386 PRM 2.2
unfoldable pub u16_at : ℕ → List ℕ → ℕ
u16_at place bytes = from_le_bytes w16 (drop place bytes)

-- The number of four bytes from a place on, the lowest byte first.
-- Source: Intel 80386 PRM 2.2
unfoldable pub u32_at : ℕ → List ℕ → ℕ
u32_at place bytes = from_le_bytes w32 (drop place bytes)

-- the two bytes of a number, and the four bytes of one
unfoldable pub u16_bytes : ℕ → List ℕ
u16_bytes n = to_le_bytes w16 n

unfoldable pub u32_bytes : ℕ → List ℕ
u32_bytes n = to_le_bytes w32 n

-- ---- the header, the first 64 bytes

-- The fields of the header, each by the place of its first byte.
-- Own choice: docs/DECISIONS.md, "The image file"
abbrev pub version_of : List ℕ → ℕ
version_of bytes = u16_at 4 bytes

abbrev pub cpus_of : List ℕ → ℕ
cpus_of bytes = slice_index bytes 6

abbrev pub flags_of : List ℕ → ℕ
flags_of bytes = slice_index bytes 7

abbrev pub memory_of : List ℕ → ℕ
memory_of bytes = u32_at 8 bytes

abbrev pub gdt_of : List ℕ → TableAt
gdt_of bytes = record { base = u32_at 12 bytes; limit = u16_at 16 bytes }

abbrev pub idt_of : List ℕ → TableAt
idt_of bytes = record { base = u32_at 20 bytes; limit = u16_at 18 bytes }

abbrev pub plan_count : List ℕ → ℕ
plan_count bytes = u32_at 24 bytes

abbrev pub section_count : List ℕ → ℕ
section_count bytes = u32_at 28 bytes

-- Processor p starts bare where its bit of the flags is 0, and else in a task.
-- Own choice: docs/DECISIONS.md, "The image file"
abbrev pub starts_bare : ℕ → ℕ → Bool
starts_bare flags p = flags / 2 ^ p % 2 == 0

-- The start that a start word gives processor p: the whole word, which is the EIP of one that starts bare, or the low half, which is the
-- selector of one that starts in a task.
-- Own choice: docs/DECISIONS.md, "The image file"
abbrev pub start_in : ℕ → ℕ → ℕ → ℕ
start_in flags p word = if starts_bare flags p then word else word % 2 ^ 16

-- The start of processor p, which is 0 where there is no such processor, whatever stands in the file.
-- Own choice: docs/DECISIONS.md, "The image file"
abbrev pub start_word : List ℕ → ℕ → ℕ
start_word bytes p = if nat_lt p (cpus_of bytes) then start_in (flags_of bytes) p (u32_at (32 + 4 * p) bytes) else 0

-- the starts of the processors 0 to 7
unfoldable pub starts_of : List ℕ → List ℕ
starts_of bytes = map (start_word bytes) (range_with_len 0 8)

-- The memory: 4,096 to 16,777,216 bytes, a multiple of 4,096.
-- Own choice: docs/DECISIONS.md, "Limits"
abbrev pub IsMemorySize : ℕ → Type 0
IsMemorySize n = (4096 ≤ n) × (n ≤ 16777216) × (n % 4096 ≡ 0)

-- How many processors there may be.
-- Own choice: docs/DECISIONS.md, "Limits"
abbrev pub IsCpuCount : ℕ → Type 0
IsCpuCount n = (1 ≤ n) × (n ≤ 8)

-- ---- what follows the header

-- A section in a file: its address, how many bytes it has, and the bytes.
-- Own choice: docs/DECISIONS.md, "The image file"
abbrev pub section_text : Section → List ℕ
section_text s = u32_bytes s.addr ++ (u32_bytes (length s.bytes) ++ s.bytes)

-- a section whose two numbers have four bytes
abbrev pub HasText : Section → Type 0
HasText s = (s.addr < 2 ^ 32) × (length s.bytes < 2 ^ 32)

-- The bytes begin with this section, and the rest follows it.
pub record Takes (bytes : List ℕ) (s : Section) (rest : List ℕ) : Type 0 where
  pub text : HasText s
  pub parts : bytes ≡ section_text s ++ rest

-- The bytes begin with these n sections, end to end, and the rest follows them.
pub record TakesAll (n : ℕ) (bytes : List ℕ) (ss : List Section) (rest : List ℕ) : Type 0 where
  pub count : length ss ≡ n
  pub text : AllByRecursion HasText ss
  pub parts : bytes ≡ flat_map section_text ss ++ rest

-- The entry of the plan that bytes begin with: its step, its processor, its vector, and two bytes that are ignored.
-- Own choice: docs/DECISIONS.md, "The image file"
abbrev pub entry_at : List ℕ → Planned
entry_at bytes = record { step = u32_at 0 bytes; cpu = slice_index bytes 4; vector = slice_index bytes 5 }

-- so many entries, end to end
unfoldable pub entries : ℕ → List ℕ → List Planned
entries zero bytes = []
entries (suc n) bytes = entry_at bytes ∷ entries n (drop 8 bytes)

-- The plan, which stands behind the header.
-- Own choice: docs/DECISIONS.md, "The image file"
unfoldable pub plan_in : List ℕ → List Planned
plan_in bytes = entries (plan_count bytes) (drop 64 bytes)

-- an entry's place in the order: by its processor, and then by its step
abbrev pub place_in_order : Planned → ℕ
place_in_order e = e.cpu * 2 ^ 32 + e.step

-- The entries are of processors that there are, and their places rise; the first has this place or one behind it.
-- Own choice: docs/DECISIONS.md, "The image file"
unfoldable pub are_ordered : ℕ → ℕ → List Planned → Bool
are_ordered cpus place [] = true
are_ordered cpus place (e ∷ es) = nat_lt e.cpu cpus && (nat_le place (place_in_order e) && are_ordered cpus (place_in_order e + 1) es)

-- the place behind the plan, whose entries have eight bytes each
abbrev pub plan_end : List ℕ → ℕ
plan_end bytes = 64 + 8 * plan_count bytes

-- Behind header and plan stand these sections, as many as the header counts, and then the rest.
-- Own choice: docs/DECISIONS.md, "The image file"
pub record HasSections (bytes : List ℕ) (ss : List Section) (rest : List ℕ) : Type 0 where
  pub plan : plan_end bytes ≤ length bytes
  pub sections : TakesAll (section_count bytes) (drop (plan_end bytes) bytes) ss rest

-- The sections rise, don't overlap, and end inside the memory; the first begins at a place or above it.
-- Own choice: docs/DECISIONS.md, "The image file"
abbrev pub ArePlaced : ℕ → ℕ → List Section → Type 0
ArePlaced place memory [] = Unit {0}
ArePlaced place memory (s ∷ ss) = (place ≤ s.addr) × (s.addr + length s.bytes ≤ memory) × ArePlaced (s.addr + length s.bytes) memory ss

-- ---- the image

-- These flags are of processors below this count: no bit at the count or above it is set.
-- Own choice: docs/DECISIONS.md, "The image file"
abbrev pub AreFlags : ℕ → ℕ → Type 0
AreFlags cpus flags = flags / 2 ^ cpus ≡ 0

-- The header of an image.
-- Own choice: docs/DECISIONS.md, "The image file"
pub record HasHeader (bytes : List ℕ) : Type 0 where
  pub long : 64 ≤ length bytes
  pub magic : take 4 bytes ≡ codes "M386"
  pub version : version_of bytes ≡ 1
  pub memory : IsMemorySize (memory_of bytes)
  pub cpus : IsCpuCount (cpus_of bytes)
  pub flags : AreFlags (cpus_of bytes) (flags_of bytes)

-- The image that these bytes are.
-- Own choice: docs/DECISIONS.md, "The image file"
pub record ImageOf (bytes : List ℕ) (image : Image) : Type 0 where
  pub are_bytes : AreBytes bytes
  pub header : HasHeader bytes
  pub memory : image.memory ≡ memory_of bytes
  pub cpus : image.cpus ≡ cpus_of bytes
  pub flags : image.flags ≡ flags_of bytes
  pub gdt : image.gdt ≡ gdt_of bytes
  pub idt : image.idt ≡ idt_of bytes
  pub starts : image.starts ≡ starts_of bytes
  pub plan : image.plan ≡ plan_in bytes
  pub ordered : are_ordered image.cpus 0 image.plan ≡ true
  pub sections : HasSections bytes image.sections []
  pub placed : ArePlaced 0 image.memory image.sections

-- An image that some bytes are.
abbrev pub IsValid : Image → Type 0
IsValid image = (bytes : List ℕ) × ImageOf bytes image

-- ---- the one text of an image that is written

-- the first twelve bytes: the text M386, the version, the processors, the flags, and the memory
abbrev pub head_text : Image → List ℕ
head_text image = codes "M386" ++ u16_bytes 1 ++ (image.cpus ∷ image.flags ∷ []) ++ u32_bytes image.memory

abbrev pub tables_text : Image → List ℕ
tables_text image = u32_bytes image.gdt.base ++ u16_bytes image.gdt.limit ++ u16_bytes image.idt.limit ++ u32_bytes image.idt.base

abbrev pub counts_text : Image → List ℕ
counts_text image = u32_bytes (length image.plan) ++ u32_bytes (length image.sections)

-- an entry of the plan
abbrev pub entry_text : Planned → List ℕ
entry_text e = u32_bytes e.step ++ (e.cpu ∷ e.vector ∷ 0 ∷ 0 ∷ [])

-- The bytes that are written for an image: of all bytes that are the image those with 0 in each ignored word and byte.
-- Own choice: docs/DECISIONS.md, "The image file"
unfoldable pub image_text : Image → List ℕ
image_text image = head_text image ++ tables_text image ++ counts_text image ++ flat_map u32_bytes image.starts ++ flat_map entry_text image.plan ++ flat_map section_text image.sections

-- The counts of plan entries and of sections have four bytes, and so have the two numbers of each section. An image like that has
-- a text, whether it is valid or not.
pub record HasImageText (image : Image) : Type 0 where
  pub planned : length image.plan < 2 ^ 32
  pub counted : length image.sections < 2 ^ 32
  pub sections : AllByRecursion HasText image.sections
