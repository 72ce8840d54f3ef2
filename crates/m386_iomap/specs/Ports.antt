-- Cycles on ports.
use Rattle.std.specs.Prelude.{ℕ, true, false, List, [], ◌∷◌, bit_or}
use Rattle.m386_base.specs.declared.ask.Ask.{Ask}
use Rattle.m386_base.specs.declared.ask.Role.TheVariants.{Operand}
use Rattle.m386_base.specs.declared.ask.Space.TheVariants.{Port}
use Rattle.m386_base.specs.declared.split.Piece.{Piece}
use Rattle.m386_base.specs.Split.{pieces, gather_of, spread_of}
use Rattle.m386_base.specs.Phrase.{Phrase, Done, ◌>>=◌, one}

-- A group of ports, read.
-- Own choice: docs/DECISIONS.md, "The form of a bus cycle"
abbrev pub port_read_ask : Piece → Ask
port_read_ask p = record { space = Port; write = false; joined = false; role = Operand; part = p.place; addr = p.addr; enables = p.enables; value = 0 }

-- groups of ports read one after another, each put at its place
unfoldable pub port_reads : ℕ → List Piece → Phrase ℕ
port_reads value [] = Done value
port_reads value (p ∷ ps) = do
  found ← one (port_read_ask p)
  port_reads (bit_or value (gather_of p found)) ps

-- A group of ports, written.
-- Own choice: docs/DECISIONS.md, "The form of a bus cycle"
abbrev pub port_write_ask : Piece → ℕ → Ask
port_write_ask p value = record { space = Port; write = true; joined = false; role = Operand; part = p.place; addr = p.addr; enables = p.enables; value = spread_of p value }

-- groups of ports written one after another
unfoldable pub port_writes : ℕ → List Piece → Phrase (Unit {0})
port_writes value [] = Done tt
port_writes value (p ∷ ps) = do
  _ ← one (port_write_ask p value)
  port_writes value ps

-- So many ports from here on, read.
-- Source: Intel 80386 PRM 8.1.1
unfoldable pub ports_read_phrase : ℕ → ℕ → Phrase ℕ
ports_read_phrase port len = port_reads 0 (pieces Port port len)

-- So many ports from here on, written.
-- Source: Intel 80386 PRM 8.1.1
unfoldable pub ports_write_phrase : ℕ → ℕ → ℕ → Phrase (Unit {0})
ports_write_phrase port len value = port_writes value (pieces Port port len)
