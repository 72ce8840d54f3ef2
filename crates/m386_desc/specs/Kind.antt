-- What may be done with a segment of each kind.
use Rattle.std.specs.Prelude.{Bool, true, false}
use Rattle.m386_desc.specs.declared.kind.Kind.{Kind}
use Rattle.m386_desc.specs.declared.kind.Kind.TheVariants as kinds

-- Conforming code, which runs at its caller's privilege.
-- Source: Intel 80386 PRM 6.3.1.1
unfoldable pub is_conforming_kind : Kind → Bool
is_conforming_kind (kinds.CodeSeg conforming readable) = conforming
is_conforming_kind _ = false

-- What may be read as data: data, and readable code.
-- Source: Intel 80386 PRM 6.3.1.1
unfoldable pub is_readable_kind : Kind → Bool
is_readable_kind (kinds.DataSeg down writable) = true
is_readable_kind (kinds.CodeSeg conforming readable) = readable
is_readable_kind _ = false

-- What may be written: writable data.
-- Source: Intel 80386 PRM 6.3.1.1
unfoldable pub is_writable_kind : Kind → Bool
is_writable_kind (kinds.DataSeg down writable) = writable
is_writable_kind _ = false
