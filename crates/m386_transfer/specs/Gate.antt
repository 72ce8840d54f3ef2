-- The numbers of a gate whose eight bytes were read as a descriptor.
use Rattle.std.specs.Prelude.{◌+◌, ◌*◌, ◌/◌, ◌%◌, ◌^◌}
use Rattle.m386_base.specs.declared.desc.Desc.{Desc}
use Rattle.m386_desc.specs.declared.gate.Gate4.{Gate4}

-- The selector stands in the low half of what is read as the base, and the count above it; the offset in what is read as the limit,
-- the flags and the top byte of the base.
-- Source: Intel 80386 PRM 6.3.4
abbrev pub gate_of : Desc → Gate4
gate_of d = record {
  selector = d.base % 2 ^ 16;
  offset = d.raw_limit % 2 ^ 16 + (d.raw_limit / 2 ^ 16 + d.flags * 2 ^ 4) * 2 ^ 16 + d.base / 2 ^ 24 * 2 ^ 24;
  count = d.base / 2 ^ 16 % 2 ^ 5;
}
