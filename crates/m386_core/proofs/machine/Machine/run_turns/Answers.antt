use Rattle.std.proofs.Common.{◌≡◌, ◌<◌, ◌%◌, ◌+◌, ℕ}
use Rattle.m386_core.specs.Order.{Turns}
use Rattle.m386_core.proofs.Groups.{room_shrinks}
use Rattle.m386_core.proofs.Runs.{turns_begin, turns_next, turns_lost}
use Rattle.m386_core.proofs.machine.Machine.run_turns.Goals as goal

pub loop-due-init : goal.loop-due-init
loop-due-init c = turns_begin c.args.self.now c.cpus-cpus.ensures.kept

pub returns-in_err-made-clause-order : goal.returns-in_err-made-clause-order
returns-in_err-made-clause-order c = turns_lost c.args.self.now c.loop-due.self c.turn_from.new.self c.loop-due.number c.loop-due.invariant c.in_err-made.ensures.order

pub loop-due-smaller : goal.loop-due-smaller
loop-due-smaller c = room_shrinks c.in_ok-made.made c.loop-due.self c.turn_from.new.self c.in_ok-made.ensures.goes.kept c.in_ok-made.ensures.made

pub loop-due-preserved : goal.loop-due-preserved
loop-due-preserved c =
    let below : c.in_turn-number.result < c.args.self.now.cpus = rw c.cpus-cpus.ensures.cpus at c.in_turn-number.ensures.below in
    let follows : (a : ℕ) → c.in_ok-made.made ≡ a % c.args.self.now.cpus → c.in_turn-number.result ≡ (a + 1) % c.args.self.now.cpus = rw c.cpus-cpus.ensures.cpus at c.in_turn-number.ensures.follows in
    turns_next c.args.self.now c.loop-due.self c.turn_from.new.self c.loop-due.number c.in_ok-made.made c.in_turn-number.result c.loop-due.invariant c.in_ok-made.ensures.goes c.in_ok-made.ensures.order below follows

pub returns-clause-over : goal.returns-clause-over
returns-clause-over c = c.due.ensures.over c.in_default.is

pub returns-clause-order : goal.returns-clause-order
returns-clause-order c = λ order s. (let so = c.loop-due.invariant.order order s in (Turns so.0, so.2))
