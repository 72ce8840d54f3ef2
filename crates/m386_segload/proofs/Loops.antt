-- The groups of a descriptor that a loop has yet to read.
use Rattle.std.proofs.Common.{◌≡◌, ℕ, ◌+◌, ◌<◌, ◌≤◌, Bool, true, List, length, drop, get_or, refl, add-one, drop-cons, bit_or}
use Rattle.std.proofs.lemmas.List.{drop_all}
use Rattle.m386_base.specs.declared.ask.Role.{Role}
use Rattle.m386_base.specs.declared.split.Piece.{Piece}
use Rattle.m386_base.specs.Split.{gather_of}
use Rattle.m386_base.specs.Phrase.{Done, ◌>>=◌, one}
use Rattle.m386_base.proofs.Groups.{no_piece}
use Rattle.m386_access.specs.Access.{read_ask}
use Rattle.m386_segload.specs.Descriptors.{word_reads}

pub word_reads_next : (role : Role) (joined : Bool) (value : ℕ) (ps : List Piece) (i : ℕ) → i < length ps → word_reads role joined value (drop i ps) ≡ (one (read_ask role joined (get_or ps i no_piece)) >>= (λ found. word_reads role true (bit_or value (gather_of (get_or ps i no_piece) found)) (drop (i + 1) ps)))
unfolding word_reads
word_reads_next role joined value ps i h = rw (drop-cons ps i no_piece h) (rw (add-one i) refl)

pub word_reads_end : (role : Role) (joined : Bool) (value : ℕ) (ps : List Piece) (i : ℕ) → length ps ≤ i → word_reads role joined value (drop i ps) ≡ Done value
unfolding word_reads
word_reads_end role joined value ps i h = rw (drop_all i ps h) refl

pub ruleset word_read_steps = (word_reads_next, word_reads_end)
