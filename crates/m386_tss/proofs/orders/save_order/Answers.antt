use Rattle.std.proofs.Common.{◌≡◌, ◌-◌, length, arith}
use Rattle.m386_tss.specs.Orders.{saved_fields}
use Rattle.m386_tss.proofs.Rising.{counting_from, length-grown}
use Rattle.m386_tss.proofs.orders.save_order.Goals as goal

-- src/orders.rt:15:5
pub loop-number-init : goal.loop-number-init
unfolding counting_from
loop-number-init c = c.new-order.ensures

-- src/orders.rt:16:9
pub push-requires : goal.push-requires
push-requires c =
    let grown : length c.loop-number.order.items ≡ c.loop-number.number - 8 = length-grown 8 _ _ c.loop-number.invariant in
    (omega arith, omega arith)

-- src/orders.rt:10:1
pub returns : goal.returns
unfolding counting_from saved_fields
returns c =
    let end : c.loop-number.number ≡ 24 = omega arith in
    rw end at c.loop-number.invariant
