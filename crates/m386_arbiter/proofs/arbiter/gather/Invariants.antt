use Rattle.m386_arbiter.proofs.Gathering.{Gathers}
use Rattle.m386_arbiter.proofs.arbiter.gather.Given as goal

abbrev pub invariant-loop-next : goal.invariant-loop-next
invariant-loop-next l = Gathers l.board.table_id l.fn.seats.items l.seats.items l.all.table_id l.all.me

abbrev pub decreases-loop-next : goal.decreases-loop-next
decreases-loop-next l = goal.left-loop-next l
