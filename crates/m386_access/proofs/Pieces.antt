-- The groups that a loop has yet to read or write.
use Rattle.std.proofs.Common.{◌≡◌, ℕ, ◌+◌, ◌<◌, ◌≤◌, List, length, drop, get_or, refl, add-one, drop-cons, false, bit_or}
use Rattle.std.proofs.lemmas.List.{drop_all}
use Rattle.m386_base.specs.declared.ask.Role.{Role}
use Rattle.m386_base.specs.declared.split.Piece.{Piece}
use Rattle.m386_base.specs.Split.{gather_of}
use Rattle.m386_base.specs.Phrase.{Done, ◌>>=◌, one}
use Rattle.m386_base.proofs.Groups.{no_piece}
use Rattle.m386_access.specs.Access.{reads, read_ask, writes, write_ask}

pub reads_next : (role : Role) (value : ℕ) (ps : List Piece) (i : ℕ) → i < length ps → reads role value (drop i ps) ≡ (one (read_ask role false (get_or ps i no_piece)) >>= (λ found. reads role (bit_or value (gather_of (get_or ps i no_piece) found)) (drop (i + 1) ps)))
unfolding reads
reads_next role value ps i h = rw (drop-cons ps i no_piece h) (rw (add-one i) refl)

pub reads_end : (role : Role) (value : ℕ) (ps : List Piece) (i : ℕ) → length ps ≤ i → reads role value (drop i ps) ≡ Done value
unfolding reads
reads_end role value ps i h = rw (drop_all i ps h) refl

pub writes_next : (role : Role) (value : ℕ) (ps : List Piece) (i : ℕ) → i < length ps → writes role value (drop i ps) ≡ (one (write_ask role false (get_or ps i no_piece) value) >>= (λ _. writes role value (drop (i + 1) ps)))
unfolding writes
writes_next role value ps i h = rw (drop-cons ps i no_piece h) (rw (add-one i) refl)

pub writes_end : (role : Role) (value : ℕ) (ps : List Piece) (i : ℕ) → length ps ≤ i → writes role value (drop i ps) ≡ Done tt
unfolding writes
writes_end role value ps i h = rw (drop_all i ps h) refl

pub ruleset read_steps = (reads_next, reads_end)

pub ruleset write_steps = (writes_next, writes_end)
