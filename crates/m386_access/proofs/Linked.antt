-- The groups that a loop over an access with LOCK has yet to read or write.
use Rattle.std.proofs.Common.{◌≡◌, ℕ, ◌+◌, ◌<◌, ◌≤◌, Bool, List, length, drop, get_or, refl, add-one, drop-cons, bit_or}
use Rattle.std.proofs.lemmas.List.{drop_all}
use Rattle.m386_base.specs.declared.ask.Role.TheVariants.{Operand}
use Rattle.m386_base.specs.declared.split.Piece.{Piece}
use Rattle.m386_base.specs.Split.{gather_of}
use Rattle.m386_base.specs.Phrase.{Done, ◌>>=◌, one}
use Rattle.m386_base.proofs.Groups.{no_piece}
use Rattle.m386_access.specs.Access.{read_ask, write_ask}
use Rattle.m386_access.specs.Modify.{linked_reads, linked_writes}

pub linked_reads_next : (lock joined : Bool) (value : ℕ) (ps : List Piece) (i : ℕ) → i < length ps → linked_reads lock joined value (drop i ps) ≡ (one (read_ask Operand joined (get_or ps i no_piece)) >>= (λ found. linked_reads lock lock (bit_or value (gather_of (get_or ps i no_piece) found)) (drop (i + 1) ps)))
unfolding linked_reads
linked_reads_next lock joined value ps i h = rw (drop-cons ps i no_piece h) (rw (add-one i) refl)

pub linked_reads_end : (lock joined : Bool) (value : ℕ) (ps : List Piece) (i : ℕ) → length ps ≤ i → linked_reads lock joined value (drop i ps) ≡ Done value
unfolding linked_reads
linked_reads_end lock joined value ps i h = rw (drop_all i ps h) refl

pub linked_writes_next : (lock : Bool) (value : ℕ) (ps : List Piece) (i : ℕ) → i < length ps → linked_writes lock value (drop i ps) ≡ (one (write_ask Operand lock (get_or ps i no_piece) value) >>= (λ _. linked_writes lock value (drop (i + 1) ps)))
unfolding linked_writes
linked_writes_next lock value ps i h = rw (drop-cons ps i no_piece h) (rw (add-one i) refl)

pub linked_writes_end : (lock : Bool) (value : ℕ) (ps : List Piece) (i : ℕ) → length ps ≤ i → linked_writes lock value (drop i ps) ≡ Done tt
unfolding linked_writes
linked_writes_end lock value ps i h = rw (drop_all i ps h) refl

pub ruleset linked_read_steps = (linked_reads_next, linked_reads_end)

pub ruleset linked_write_steps = (linked_writes_next, linked_writes_end)
