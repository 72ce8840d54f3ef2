-- What a bus over a few bytes holds.
use Rattle.std.specs.Prelude.{ℕ, List, [], map, if◌then◌else◌}
use Rattle.m386_base.specs.declared.ask.Ask.{Ask}
use Rattle.m386_base.specs.declared.ask.Cycle.{Cycle}
use Rattle.m386_base.specs.Bytes.{bytes_of}
use Rattle.m386_memory.specs.Contents.{Contents, with_written}

-- these bytes of memory, and no port: memory past them reads as ones, a port as zeros, and what is written there is lost
abbrev pub few : List ℕ → Contents
few bytes = record { memory = bytes; ports = [] }

-- the bytes after an ask
abbrev pub few_after : List ℕ → Ask → List ℕ
few_after bytes ask = if ask.write then (with_written (few bytes) ask.space (bytes_of ask)).memory else bytes

-- the asks of cycles, in their order
abbrev pub asks_in : List Cycle → List Ask
asks_in H = map (λ c. c.ask) H

-- asks as the cycles of processor 0
abbrev pub by_zero : List Ask → List Cycle
by_zero asks = map (λ a. record { cpu = 0; ask = a }) asks
