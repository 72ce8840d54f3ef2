-- The groups of ports that a loop has yet to read or write.
use Rattle.std.proofs.Common.{◌≡◌, ℕ, ◌+◌, ◌<◌, ◌≤◌, List, length, drop, get_or, refl, add-one, drop-cons, bit_or}
use Rattle.std.proofs.lemmas.List.{drop_all}
use Rattle.m386_base.specs.declared.split.Piece.{Piece}
use Rattle.m386_base.specs.Split.{gather_of}
use Rattle.m386_base.specs.Phrase.{Done, ◌>>=◌, one}
use Rattle.m386_base.proofs.Groups.{no_piece}
use Rattle.m386_iomap.specs.Ports.{port_reads, port_read_ask, port_writes, port_write_ask}

pub port_reads_next : (value : ℕ) (ps : List Piece) (i : ℕ) → i < length ps → port_reads value (drop i ps) ≡ (one (port_read_ask (get_or ps i no_piece)) >>= (λ found. port_reads (bit_or value (gather_of (get_or ps i no_piece) found)) (drop (i + 1) ps)))
unfolding port_reads
port_reads_next value ps i h = rw (drop-cons ps i no_piece h) (rw (add-one i) refl)

pub port_reads_end : (value : ℕ) (ps : List Piece) (i : ℕ) → length ps ≤ i → port_reads value (drop i ps) ≡ Done value
unfolding port_reads
port_reads_end value ps i h = rw (drop_all i ps h) refl

pub port_writes_next : (value : ℕ) (ps : List Piece) (i : ℕ) → i < length ps → port_writes value (drop i ps) ≡ (one (port_write_ask (get_or ps i no_piece) value) >>= (λ _. port_writes value (drop (i + 1) ps)))
unfolding port_writes
port_writes_next value ps i h = rw (drop-cons ps i no_piece h) (rw (add-one i) refl)

pub port_writes_end : (value : ℕ) (ps : List Piece) (i : ℕ) → length ps ≤ i → port_writes value (drop i ps) ≡ Done tt
unfolding port_writes
port_writes_end value ps i h = rw (drop_all i ps h) refl

pub ruleset read_steps = (port_reads_next, port_reads_end)

pub ruleset write_steps = (port_writes_next, port_writes_end)
