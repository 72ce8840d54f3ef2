use Rattle.m386_arbiter.proofs.Gathering.{Dealt}
use Rattle.m386_arbiter.proofs.arbiter.deal_all.Given as goal

abbrev pub invariant-loop-number : goal.invariant-loop-number
invariant-loop-number l = Dealt l.board.table_id l.cpus l.number l.dealer.table_id l.dealer.me l.seats.items
