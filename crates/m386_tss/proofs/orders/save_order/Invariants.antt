use Rattle.std.proofs.Common.{◌≡◌, ◌-◌}
use Rattle.m386_tss.proofs.Rising.{counting_from}
use Rattle.m386_tss.proofs.orders.save_order.Given as goal

abbrev pub invariant-loop-number : goal.invariant-loop-number
invariant-loop-number l = l.order.items ≡ counting_from 8 (l.number - 8)
