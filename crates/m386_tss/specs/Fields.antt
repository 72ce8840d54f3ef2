-- The fields of a task state segment, as the manual's figure has them.
use Rattle.std.specs.Prelude.{ℕ, zero, suc, ◌+◌, ◌≤◌, List, [], ◌∷◌, slice_index_or}
use Rattle.m386_tss.specs.declared.fields.Field.{Field}

-- a field with its number, the offset of its first byte and its length
abbrev pub field : ℕ → ℕ → ℕ → Field
field number offset len = record { number = number; offset = offset; len = len }

-- The fields: link; ESP and SS of the levels 0 to 2; CR3; EIP; EFLAGS; EAX, ECX, EDX, EBX, ESP, EBP, ESI, EDI; ES, CS, SS,
-- DS, FS, GS; LDT; the word of the T bit; the I/O map base.
-- Source: Intel 80386 PRM 7.1
abbrev pub field_table : List Field
field_table =
    field 0 0x00 2
    ∷ field 1 0x04 4 ∷ field 2 0x08 2 ∷ field 3 0x0c 4 ∷ field 4 0x10 2 ∷ field 5 0x14 4 ∷ field 6 0x18 2
    ∷ field 7 0x1c 4
    ∷ field 8 0x20 4
    ∷ field 9 0x24 4
    ∷ field 10 0x28 4 ∷ field 11 0x2c 4 ∷ field 12 0x30 4 ∷ field 13 0x34 4
    ∷ field 14 0x38 4 ∷ field 15 0x3c 4 ∷ field 16 0x40 4 ∷ field 17 0x44 4
    ∷ field 18 0x48 2 ∷ field 19 0x4c 2 ∷ field 20 0x50 2 ∷ field 21 0x54 2 ∷ field 22 0x58 2 ∷ field 23 0x5c 2
    ∷ field 24 0x60 2
    ∷ field 25 0x64 2
    ∷ field 26 0x66 2 ∷ []

-- The field of a number below 27.
-- Source: Intel 80386 PRM 7.1
unfoldable pub field_at : ℕ → Field
field_at number = slice_index_or field_table number (field 0 0 0)

-- n numbers that rise by one
abbrev pub numbers_from : ℕ → ℕ → List ℕ
numbers_from first zero = []
numbers_from first (suc n) = first ∷ numbers_from (first + 1) n

-- one field ends where the other begins, or before
abbrev pub EndsBefore : Field → Field → Type 0
EndsBefore f g = f.offset + f.len ≤ g.offset

-- a field lies in the segment's 104 bytes
abbrev pub IsInside : Field → Type 0
IsInside f = f.offset + f.len ≤ 104
