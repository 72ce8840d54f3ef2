use Rattle.std.proofs.Common.{◌≡◌, ℕ}
use Rattle.m386_arbiter.specs.Rule.{as_word}
use Rattle.m386_arbiter.proofs.Turns.{waiting}
use Rattle.m386_arbiter.proofs.arbiter.enter.Given as goal

abbrev pub invariant-loop : goal.invariant-loop
invariant-loop g l = (l.seat.table_id ≡ l.fn.seat.table_id) × (l.seat.id ≡ l.fn.seat.id) × ((t : ℕ) × (l.ticket ≡ as_word t) × (l.seat.me ≡ waiting l.fn.seat.me t))
