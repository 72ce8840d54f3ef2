-- The bytes of an instruction.
use Rattle.std.specs.Prelude.{ℕ, ◌+◌, ◌-◌, ◌*◌, ◌/◌, ◌%◌, ◌^◌, true, false, ◌&&◌, ◌==◌, nat_lt, if◌then◌else◌}
use Rattle.m386_base.specs.declared.ask.Ask.{Ask}
use Rattle.m386_base.specs.declared.ask.Space.TheVariants.{Memory}
use Rattle.m386_base.specs.declared.ask.Role.TheVariants.{Fetch}
use Rattle.m386_base.specs.Phrase.{Phrase, Done, Faults, ◌>>=◌, one}
use Rattle.m386_desc.specs.Offsets.{limit_of}
use Rattle.m386_state.specs.declared.proc.Proc.{Proc}
use Rattle.m386_state.specs.Start.{seg_at}
use Rattle.m386_step.specs.declared.fetch.Reader.{Reader}
use Rattle.m386_base.specs.Exceptions.{general_protection_of}
use Rattle.m386_base.specs.Segments.{cs}

-- byte at % 4 of a group
abbrev pub byte_of_value : ℕ → ℕ → ℕ
byte_of_value value at = value / 2 ^ (8 * (at % 4)) % 256

-- the whole group at an address
abbrev pub fetch_ask : ℕ → Ask
fetch_ask group = record { space = Memory; write = false; joined = false; role = Fetch; part = 0; addr = group; enables = 15; value = 0 }

-- a reader that begins at the instruction at EIP
abbrev pub first_reader : Proc → Reader
first_reader p =
    let code = (seg_at p cs).desc in
    record { base = code.base; limit = limit_of code; at = p.eip; fetched = false; group = 0; value = 0 }

-- the linear address of the next byte
abbrev pub linear : Reader → ℕ
linear r = (r.base + r.at) % 2 ^ 32

-- a byte of the group that was fetched last, and the reader behind it
abbrev pub taken : Reader → ℕ × Reader
taken r = (byte_of_value r.value (linear r), record r { at = (r.at + 1) % 2 ^ 32 })

-- The next byte. Its group is fetched where it isn't the one that was fetched last.
-- Own choice: docs/DECISIONS.md, "Fetches"
unfoldable pub group_phrase : Reader → Phrase (ℕ × Reader)
group_phrase r =
    let group = linear r - linear r % 4 in
    if r.fetched && (r.group == group) then Done (taken r) else (one (fetch_ask group) >>= (λ v.
    Done (taken (record r { fetched = true; group = group; value = v }))))

-- The next byte, whose offset is tested when it is needed: #GP(0) and no cycle past the limit of CS.
-- Source: Intel 80386 PRM 6.3.1
unfoldable pub byte_phrase : Reader → Phrase (ℕ × Reader)
byte_phrase r = if nat_lt r.limit r.at then Faults general_protection_of else group_phrase r
