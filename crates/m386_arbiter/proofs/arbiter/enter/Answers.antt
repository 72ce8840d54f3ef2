use Rattle.std.proofs.Common.{arith, sym, ap, ◌∙◌}
use mathlib.Core.Option.{none}
use Rattle.atomic_table.specs.Table.{step}
use Rattle.m386_arbiter.specs.declared.rule.Stage.TheVariants.{Queued}
use Rattle.m386_arbiter.specs.Rule.{at}
use Rattle.m386_arbiter.proofs.Steps.{draws}
use Rattle.m386_arbiter.proofs.Turns.{looks_as, looked_on, looked_now, served_busy, served_own}
use Rattle.m386_arbiter.proofs.arbiter.enter.Goals as goal

pub fetch_add-ticket-requires : goal.fetch_add-ticket-requires
fetch_add-ticket-requires g c = let one = c.requires.idle.one in (c.requires.board.0, omega arith, draws _ _ _ _ _ c.requires.idle.idle (omega arith))

pub loop-init : goal.loop-init
loop-init g c =
    let d = c.fetch_add-ticket.ensures in
    (d.0, d.1, (d.2.0, d.2.1, d.2.2 ∙ ap (λ l. (at c.args.seat.now.me.0 (Queued d.2.0), l)) c.requires.idle.empty))

pub load-requires : goal.load-requires
load-requires g c = let i = c.loop.invariant in (i.0 ∙ c.requires.board.0, omega arith, looks_as _ _ _ _ c.args.seat.now.me i.2.0 i.2.2)

pub loop-preserved : goal.loop-preserved
loop-preserved g c =
    let i = c.loop.invariant in
    let l = c.load.ensures in
    (l.0 ∙ i.0, l.1 ∙ i.1, (i.2.0, i.2.1, looked_on _ c.args.seat.now.me _ (step 0 0 0 0 none) _ _ i.2.2 l.2 (λ e. c.if-load-ticket.false (e ∙ sym i.2.1))))

pub returns-then-load-ticket-clause-board : goal.returns-then-load-ticket-clause-board
returns-then-load-ticket-clause-board g c = let i = c.loop.invariant in let l = c.load.ensures in (l.0 ∙ i.0, l.1 ∙ i.1)

pub returns-then-load-ticket-clause-busy : goal.returns-then-load-ticket-clause-busy
returns-then-load-ticket-clause-busy g c =
    let i = c.loop.invariant in
    served_busy _ c.args.seat.now.me _ _ c.requires.idle (looked_now _ c.args.seat.now.me _ (step 0 0 0 0 none) _ _ i.2.2 c.load.ensures.2 (c.if-load-ticket.true ∙ i.2.1))

pub returns-then-load-ticket-clause-own : goal.returns-then-load-ticket-clause-own
returns-then-load-ticket-clause-own g c =
    let i = c.loop.invariant in
    served_own _ c.args.seat.now.me _ _ c.requires.idle (looked_now _ c.args.seat.now.me _ (step 0 0 0 0 none) _ _ i.2.2 c.load.ensures.2 (c.if-load-ticket.true ∙ i.2.1))
