-- The limit of a segment, and the set of its offsets.
use Rattle.std.specs.Prelude.{ℕ, zero, suc, ◌+◌, ◌-◌, ◌*◌, ◌^◌, Bool, true, ◌&&◌, nat_lt, nat_le, if◌then◌else◌}
use Rattle.m386_base.specs.declared.desc.Desc.{Desc}
use Rattle.m386_desc.specs.declared.kind.Kind.{Kind}
use Rattle.m386_desc.specs.declared.kind.Kind.TheVariants as kinds
use Rattle.m386_base.specs.Flags.{has_bit}
use Rattle.m386_desc.specs.Access.{is_big, kind_of}

-- The limit in bytes. Where G is set, bit 7 of byte 6, the limit counts pages of 4,096 bytes.
-- Source: Intel 80386 PRM 5.1.1
unfoldable pub limit_of : Desc → ℕ
limit_of d = if has_bit d.flags 3 then d.raw_limit * 4096 + 4095 else d.raw_limit

-- the last offset of a segment that expands downward
abbrev pub upper_end : Desc → ℕ
upper_end d = if is_big d then 2 ^ 32 - 1 else 2 ^ 16 - 1

abbrev pub is_offset_of_kind : Kind → Desc → ℕ → Bool
is_offset_of_kind (kinds.DataSeg true writable) d offset = nat_lt (limit_of d) offset && nat_le offset (upper_end d)
is_offset_of_kind _ d offset = nat_le offset (limit_of d)

-- The offsets of a segment: 0 to the limit, or of data that expands downward those above the limit, up to the end that
-- B gives.
-- Source: Intel 80386 PRM 6.3.1.2
unfoldable pub is_offset : Desc → ℕ → Bool
is_offset d offset = is_offset_of_kind (kind_of d) d offset

-- Each of the `len` offsets from here on is one of the segment's.
-- Source: Intel 80386 PRM 6.3.1.2
unfoldable pub are_offsets : Desc → ℕ → ℕ → Bool
are_offsets d offset zero = true
are_offsets d offset (suc len) = are_offsets d offset len && is_offset d (offset + len)
