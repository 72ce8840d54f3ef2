-- What the access byte and the flags of a descriptor say.
use Rattle.std.specs.Prelude.{ℕ, ◌/◌, ◌%◌, ◌^◌, Bool, true, false, ◌==◌, ◌&&◌, if◌then◌else◌, List, [], ◌∷◌}
use Rattle.m386_base.specs.declared.desc.Desc.{Desc}
use Rattle.m386_base.specs.Flags.{has_bit}
use Rattle.m386_desc.specs.declared.kind.Kind.{Kind}
use Rattle.m386_desc.specs.declared.kind.Kind.TheVariants as kinds
use Rattle.m386_desc.specs.Kind.{is_conforming_kind, is_readable_kind, is_writable_kind}

-- The privilege level: bits 5 and 6 of the access byte.
-- Source: Intel 80386 PRM 5.1.1
unfoldable pub dpl_of : Desc → ℕ
dpl_of d = d.access / 2 ^ 5 % 4

-- The segment is present: bit 7 of the access byte.
-- Source: Intel 80386 PRM 5.1.1
unfoldable pub is_present : Desc → Bool
is_present d = has_bit d.access 7

-- Bit D of code and bit B of data: bit 6 of byte 6.
-- Source: Intel 80386 PRM 16.1
unfoldable pub is_big : Desc → Bool
is_big d = has_bit d.flags 2

-- The system types of the 386. All others are wrong here.
-- Source: Intel 80386 PRM 6.3.1.1
abbrev pub system_types : List (ℕ × Kind)
system_types =
    (2, kinds.Ldt) ∷ (5, kinds.TaskGate) ∷ (9, kinds.Tss false) ∷ (11, kinds.Tss true) ∷ (12, kinds.CallGate)
    ∷ (14, kinds.IntGate) ∷ (15, kinds.TrapGate) ∷ []

-- the kind of a type among these
abbrev pub kind_among : List (ℕ × Kind) → ℕ → Kind
kind_among [] system_type = kinds.Wrong
kind_among (row ∷ rows) system_type = if row.0 == system_type then row.1 else kind_among rows system_type

abbrev pub system_kind_of : ℕ → Kind
system_kind_of system_type = kind_among system_types system_type

-- What a descriptor describes. Bit 4 of the access byte is S. Where it is set bit 3 says code, bit 2 conforming or
-- expand-down, bit 1 readable or writable.
-- Source: Intel 80386 PRM 6.3.1.1
unfoldable pub kind_of : Desc → Kind
kind_of d =
    if has_bit d.access 4 then
    (if has_bit d.access 3 then kinds.CodeSeg (has_bit d.access 2) (has_bit d.access 1)
    else kinds.DataSeg (has_bit d.access 2) (has_bit d.access 1))
    else system_kind_of (d.access % 2 ^ 4)

abbrev pub is_code_kind : Kind → Bool
is_code_kind (kinds.CodeSeg conforming readable) = true
is_code_kind _ = false

-- What CS may take.
-- Own choice: docs/DECISIONS.md, "Code segments with D = 0"
unfoldable pub is_code_32 : Desc → Bool
is_code_32 d = is_code_kind (kind_of d) && is_big d

-- conforming code
abbrev pub is_conforming : Desc → Bool
is_conforming d = is_conforming_kind (kind_of d)

-- what may be read as data: data, and readable code
abbrev pub is_readable : Desc → Bool
is_readable d = is_readable_kind (kind_of d)

-- what may be written: writable data
abbrev pub is_writable : Desc → Bool
is_writable d = is_writable_kind (kind_of d)
