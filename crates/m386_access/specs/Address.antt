-- Where an operand in memory lies, and when it may be reached through its segment.
use Rattle.std.specs.Prelude.{ℕ, ◌+◌, ◌*◌, ◌%◌, ◌^◌, ◌==◌, ◌&&◌, ◌||◌, Bool, Option, Some, None, if◌then◌else◌}
use Rattle.m386_base.specs.declared.exception.Exception.TheVariants.{StackFault}
use Rattle.m386_base.specs.declared.fault.Fault.{Fault}
use Rattle.m386_base.specs.Exceptions.{coded_fault_of, general_protection_of}
use Rattle.m386_base.specs.Segments.{ss, ds}
use Rattle.m386_desc.specs.Access.{is_readable, is_writable}
use Rattle.m386_desc.specs.Offsets.{are_offsets}
use Rattle.m386_opmap.specs.declared.op.Addr.{Addr}
use Rattle.m386_state.specs.declared.proc.Proc.{Proc}
use Rattle.m386_state.specs.declared.segment.Seg.{Seg}
use Rattle.m386_access.specs.After.{register_of}
use Rattle.m386_access.specs.Registers.{esp, ebp}

-- SS serves a base of ESP or EBP, and DS all else.
-- Source: Intel 80386 PRM 2.5.3.2
abbrev pub default_segment : Option ℕ → ℕ
default_segment None = ds
default_segment (Some base) = if (base == esp) || (base == ebp) then ss else ds

-- The segment register of an operand.
-- Source: Intel 80386 PRM 2.5.3.2
abbrev pub segment_number : Option ℕ → Option ℕ → ℕ
segment_number (Some seg) base = seg
segment_number None base = default_segment base

-- a register that may be missing
abbrev pub part_of : Proc → Option ℕ → ℕ
part_of p None = 0
part_of p (Some register) = register_of p register

-- The offset of an operand: base, index times scale and displacement.
-- Source: Intel 80386 PRM 2.5.3.2
unfoldable pub offset_of : Proc → Addr → ℕ
offset_of p a = (part_of p a.base + part_of p a.index * a.scale + a.disp) % 2 ^ 32

-- The segment register and the offset of an operand.
-- Source: Intel 80386 PRM 2.5.3.2
abbrev pub address_of : Proc → Addr → ℕ × ℕ
address_of p a = (segment_number a.seg a.base, offset_of p a)

-- Which tests an access passes: the segment is usable, has the right, and each byte is one of its offsets.
-- Source: Intel 80386 PRM 6.3.1
abbrev pub may_read : Seg → ℕ → ℕ → Bool
may_read s offset len = s.usable && is_readable s.desc && are_offsets s.desc offset len

abbrev pub may_write : Seg → ℕ → ℕ → Bool
may_write s offset len = s.usable && is_writable s.desc && are_offsets s.desc offset len

-- the fault of an access through this segment register
abbrev pub access_fault_of : ℕ → Fault
access_fault_of seg = if seg == ss then coded_fault_of StackFault 0 else general_protection_of

-- the linear address of an offset
abbrev pub linear_of : Seg → ℕ → ℕ
linear_of s offset = (s.desc.base + offset) % 2 ^ 32
