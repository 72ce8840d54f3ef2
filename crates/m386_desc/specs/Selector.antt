-- The parts of a selector, and the error code that names it.
use Rattle.std.specs.Prelude.{ℕ, ◌+◌, ◌*◌, ◌/◌, ◌%◌, ◌^◌, Bool, ◌==◌, nat_lt, nat_le, if◌then◌else◌}

-- The requested privilege level: bits 0 and 1.
-- Source: Intel 80386 PRM 5.1.3
unfoldable pub rpl_of : ℕ → ℕ
rpl_of selector = selector % 4

-- It names a place in the LDT: bit 2, the table indicator.
-- Source: Intel 80386 PRM 5.1.3
unfoldable pub names_ldt : ℕ → Bool
names_ldt selector = selector / 4 % 2 == 1

-- It names the first place in the GDT, which no descriptor is read from.
-- Source: Intel 80386 PRM 5.1.3
unfoldable pub is_null_selector : ℕ → Bool
is_null_selector selector = nat_lt selector 4

-- The last byte of its descriptor lies in a table of this limit. The index is in bits 3 to 15.
-- Source: Intel 80386 PRM 5.1.3
unfoldable pub is_in_table : ℕ → ℕ → Bool
is_in_table selector limit = nat_le (selector / 8 * 8 + 7) limit

-- Where its descriptor stands in a table at this base.
-- Source: Intel 80386 PRM 5.1.3
abbrev pub place_in : ℕ → ℕ → ℕ
place_in base selector = (base + selector / 8 * 8) % 2 ^ 32

-- The code of a fault that names a selector: without its RPL, and with EXT in bit 0.
-- Source: Intel 80386 PRM 9.7
unfoldable pub code_of : ℕ → Bool → ℕ
code_of selector ext = selector / 4 * 4 + (if ext then 1 else 0)
