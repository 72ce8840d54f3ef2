-- The numbers of a gate.
use Rattle.std.specs.Prelude.{ℕ, ◌+◌, ◌*◌, ◌%◌, ◌^◌, List, slice_index}
use Rattle.m386_desc.specs.declared.gate.Gate4.{Gate4}

-- The gate that stands in eight bytes: the selector in bytes 2 and 3, the offset in bytes 0, 1, 6 and 7, and the count in
-- the low five bits of byte 4.
-- Source: Intel 80386 PRM 6.3.4
unfoldable pub gate_in : List ℕ → Gate4
gate_in bytes = record {
  selector = byte 2 + byte 3 * 2 ^ 8;
  offset = byte 0 + byte 1 * 2 ^ 8 + byte 6 * 2 ^ 16 + byte 7 * 2 ^ 24;
  count = byte 4 % 2 ^ 5;
}
  where
    byte : ℕ → ℕ
    byte k = slice_index bytes k
