-- What the tests of a table ask of one descriptor, which may not have been read.
use Rattle.std.specs.Prelude.{ℕ, Bool, true, false, not, ◌&&◌, ◌||◌, ◌==◌, nat_le, if◌then◌else◌, Option, Some, None}
use Rattle.m386_base.specs.declared.desc.Desc.{Desc}
use Rattle.m386_desc.specs.declared.kind.Kind.{Kind}
use Rattle.m386_desc.specs.declared.kind.Kind.TheVariants as kinds
use Rattle.m386_desc.specs.Access.{dpl_of, is_conforming, kind_of}
use Rattle.m386_desc.specs.Offsets.{limit_of, are_offsets}

-- the descriptor was read, and passes
abbrev pub given : Option Desc → (Desc → Bool) → Bool
given None passes = false
given (Some d) passes = passes d

-- at this privilege and with this RPL the descriptor may be used
abbrev pub is_reached_from : ℕ → ℕ → Desc → Bool
is_reached_from cpl rpl d = nat_le cpl (dpl_of d) && nat_le rpl (dpl_of d)

abbrev pub is_tss_kind : Kind → Bool
is_tss_kind (kinds.Tss busy) = true
is_tss_kind _ = false

abbrev pub is_marked_kind : Bool → Kind → Bool
is_marked_kind true (kinds.Tss busy) = busy
is_marked_kind false (kinds.Tss busy) = not busy
is_marked_kind _ _ = false

abbrev pub is_ldt_kind : Kind → Bool
is_ldt_kind kinds.Ldt = true
is_ldt_kind _ = false

abbrev pub is_tss : Desc → Bool
is_tss d = is_tss_kind (kind_of d)

abbrev pub is_marked : Bool → Desc → Bool
is_marked busy d = is_marked_kind busy (kind_of d)

-- the 104 bytes of the fields lie in the segment
abbrev pub has_all_fields : Desc → Bool
has_all_fields d = nat_le 103 (limit_of d)

abbrev pub is_ldt : Desc → Bool
is_ldt d = is_ldt_kind (kind_of d)

-- code that runs at this level
abbrev pub runs_at : ℕ → Desc → Bool
runs_at level d = if is_conforming d then nat_le (dpl_of d) level else dpl_of d == level

-- a stack of this level
abbrev pub has_level : ℕ → Desc → Bool
has_level level d = dpl_of d == level

-- conforming code, or what may be used at this privilege and with this RPL
abbrev pub may_be_data_from : ℕ → ℕ → Desc → Bool
may_be_data_from cpl rpl d = is_conforming d || is_reached_from cpl rpl d

-- EIP is an offset of the segment
abbrev pub holds_offset : ℕ → Desc → Bool
holds_offset offset d = are_offsets d offset 1
