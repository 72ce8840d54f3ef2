use Rattle.std.proofs.Common.{◌≡◌, [], rules}
use Rattle.m386_arbiter.proofs.Steps.{joins}
use Rattle.m386_arbiter.proofs.Gathering.{gathers_last, gathers_next, gathers_low, gathers_all}
use Rattle.m386_arbiter.proofs.arbiter.gather.Goals as goal

pub loop-next-init : goal.loop-next-init
loop-next-init c = gathers_last _ _ _ _ c.requires.seats.1 c.in-Some.ensures.items

pub join_seat-requires : goal.join_seat-requires
join_seat-requires c =
    let i = c.loop-next.invariant in
    let l = gathers_low _ _ _ c.pop-in-loop-next.new.self.items c.in-Some-pop.next _ _ i c.in-Some-pop.ensures.items in
    (l.0, i.board, i.empty, c.requires.board, joins _ _ _ _ _ c.in-Some-pop.next.idle.idle i.idle l.1 l.2)

pub loop-next-preserved : goal.loop-next-preserved
loop-next-preserved c = let j = c.join_seat.ensures in gathers_next _ _ _ _ c.in-Some-pop.next _ _ _ _ c.loop-next.invariant c.in-Some-pop.ensures.items j.0 j.2

pub returns-clause-all : goal.returns-clause-all
returns-clause-all c = let e : c.loop-next.seats.items ≡ [] = search rules in gathers_all _ _ _ _ _ c.loop-next.invariant e
