use Rattle.std.proofs.Common.{◌<◌, ap, arith}
use Rattle.m386_arbiter.proofs.Gathering.{dealt_on, dealt_all}
use Rattle.m386_arbiter.proofs.arbiter.deal_all.Goals as goal

pub loop-number-preserved : goal.loop-number-preserved
loop-number-preserved c =
    dealt_on c.args.board.now.table_id c.args.cpus c.loop-number.number c.loop-number.dealer.table_id c.deal.new.seat.table_id c.loop-number.dealer.me c.deal.new.seat.me c.loop-number.seats.items c.push.new.self.items c.deal.result
    c.loop-number.invariant c.loop-number-test.true c.deal.ensures.board c.deal.ensures.dealer c.deal.ensures.seat c.in_ok-push.ensures.items

pub returns : goal.returns
returns c =
    let i = c.loop-number.invariant in
    let some = i.dealer.some in
    let left = i.left in
    let less : c.loop-number.number < c.args.cpus = omega arith in
    let made = c.new.ensures in
    dealt_all c.args.board.now.table_id c.args.cpus c.loop-number.number c.loop-number.dealer.table_id c.loop-number.dealer.me c.loop-number.seats.items c.push-2.new.self.items c.new.result
    i less (λ l. let f = c.loop-number-test.false in omega arith) (ap (λ s. s.table_id) made.1) (ap (λ s. s.me) made.1) made.0 c.in_ok-push-2.ensures.items
