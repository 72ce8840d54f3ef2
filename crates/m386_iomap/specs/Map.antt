-- The I/O permission bit map of a task: which ports it may use.
use Rattle.std.specs.Prelude.{ℕ, Bool, false, ◌+◌, ◌-◌, ◌*◌, ◌/◌, ◌%◌, ◌^◌, ◌==◌, ◌&&◌, nat_le, nat_lt, bit_and, if◌then◌else◌}
use Rattle.m386_base.specs.declared.ask.Role.TheVariants as roles
use Rattle.m386_base.specs.Phrase.{Phrase, Done, ◌>>=◌}
use Rattle.m386_desc.specs.Offsets.{limit_of}
use Rattle.m386_state.specs.declared.proc.Proc.{Proc}
use Rattle.m386_state.specs.declared.segment.Seg.{Seg}
use Rattle.m386_access.specs.Access.{memory_pieces, reads}
use Rattle.m386_switch.specs.Fields.{field_phrase}
use Rattle.m386_iomap.specs.declared.map.MapByte.{MapByte}
use Rattle.m386_iomap.specs.declared.map.MapBytes.{MapBytes}
use Rattle.m386_iomap.specs.declared.map.MapBytes.TheVariants.{One, Two}

-- the bits of so many ports in a byte of the map, from this bit on
abbrev pub port_bits : ℕ → ℕ → ℕ
port_bits bit count = (2 ^ count - 1) * 2 ^ bit

-- two bytes of the map, the lower one first
abbrev pub rising : MapByte → MapByte → MapBytes
rising a b = if nat_lt b.number a.number then Two b a else Two a b

-- The bytes of the map that hold the ports of an access, rising. Port n has bit n % 8 of byte n / 8. Behind port 65,535 comes port 0.
-- Source: Intel 80386 PRM 8.3.2; ports past the last one: docs/DECISIONS.md, "The I/O map"
unfoldable pub map_bytes : ℕ → ℕ → MapBytes
map_bytes port len =
    if nat_le (port % 8 + len) 8 then One (record { number = port / 8; bits = port_bits (port % 8) len })
    else rising (record { number = port / 8; bits = port_bits (port % 8) (8 - port % 8) })
    (record { number = (port / 8 + 1) % 2 ^ 13; bits = port_bits 0 (port % 8 + len - 8) })

-- TR may be used, and its TSS has the whole word that says where the map lies, bytes 102 and 103.
-- Source: Intel 80386 PRM 7.1, 8.3.2
abbrev pub has_map_base : Seg → Bool
has_map_base tr = tr.usable && nat_le 103 (limit_of tr.desc)

-- a byte of the map, by its linear address
unfoldable pub map_byte_phrase : ℕ → Phrase ℕ
map_byte_phrase at = reads roles.Map 0 (memory_pieces at 1)

-- These bits are clear in the byte at this offset of the TSS.
unfoldable pub has_clear_bits_phrase : Seg → ℕ → ℕ → Phrase Bool
has_clear_bits_phrase tr offset bits = do
  byte ← map_byte_phrase ((tr.desc.base + offset) % 2 ^ 32)
  Done (bit_and byte bits == 0)

-- A byte of the map lies inside the TSS, and has the bits of the access clear. One that lies past its limit isn't read.
-- Source: Intel 80386 PRM 8.3.2; one byte alone: docs/DECISIONS.md, "The I/O map"
unfoldable pub is_clear_phrase : Seg → ℕ → MapByte → Phrase Bool
is_clear_phrase tr base b = if nat_le (base + b.number) (limit_of tr.desc) then has_clear_bits_phrase tr (base + b.number) b.bits else Done false

-- both bytes are so; the second is looked at only where the first is
unfoldable pub are_clear_phrase : Seg → ℕ → MapByte → MapByte → Phrase Bool
are_clear_phrase tr base first second = is_clear_phrase tr base first >>= (λ clear. if clear then is_clear_phrase tr base second else Done false)

-- each byte that holds one of the ports is so
abbrev pub allows_phrase : Seg → ℕ → MapBytes → Phrase Bool
allows_phrase tr base (One byte) = is_clear_phrase tr base byte
allows_phrase tr base (Two first second) = are_clear_phrase tr base first second

-- the map's base, which is field 26, and what the map says
unfoldable pub map_phrase : Seg → MapBytes → Phrase Bool
map_phrase tr bytes = do
  base ← field_phrase roles.Map tr.desc.base 26
  allows_phrase tr (base % 2 ^ 16) bytes

-- The I/O map of the task allows an access to so many ports.
-- Source: Intel 80386 PRM 8.3.2
unfoldable pub may_use_phrase : Proc → ℕ → ℕ → Phrase Bool
may_use_phrase p port len = if has_map_base p.tr then map_phrase p.tr (map_bytes port len) else Done false
