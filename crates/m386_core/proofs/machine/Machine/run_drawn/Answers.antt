use Rattle.std.proofs.Common.{◌%◌, ◌/◌, ◌^◌, ◌∙◌, ℕ, sym, ap}
use Rattle.m386_core.specs.Order.{Drawn, draw_of}
use Rattle.m386_core.proofs.Groups.{room_shrinks}
use Rattle.m386_core.proofs.Runs.{drawn_begin, drawn_next, drawn_lost}
use Rattle.m386_core.proofs.machine.Machine.run_drawn.Goals as goal

pub loop-due-init : goal.loop-due-init
loop-due-init c = drawn_begin c.args.seed c.args.self.now c.cpus-cpus.ensures.kept

pub returns-in_err-turn_from-clause-order : goal.returns-in_err-turn_from-clause-order
returns-in_err-turn_from-clause-order c = drawn_lost c.args.seed c.args.self.now c.loop-due.self c.turn_from.new.self c.loop-due.x c.draw-x.result _ c.loop-due.invariant c.draw-x.ensures (ap (λ (k : ℕ). c.draw-x.result / 2 ^ 33 % k) (c.cpus-cpus.ensures.cpus ∙ sym c.loop-due.invariant.goes.same.cpus)) c.in_err-turn_from.ensures.order

pub loop-due-smaller : goal.loop-due-smaller
loop-due-smaller c = room_shrinks c.in_ok-turn_from.field-0 c.loop-due.self c.turn_from.new.self c.in_ok-turn_from.ensures.goes.kept c.in_ok-turn_from.ensures.made

pub loop-due-preserved : goal.loop-due-preserved
loop-due-preserved c = drawn_next c.args.seed c.args.self.now c.loop-due.self c.turn_from.new.self c.loop-due.x c.draw-x.result _ c.in_ok-turn_from.field-0 c.loop-due.invariant c.draw-x.ensures (ap (λ (k : ℕ). c.draw-x.result / 2 ^ 33 % k) (c.cpus-cpus.ensures.cpus ∙ sym c.loop-due.invariant.goes.same.cpus)) c.in_ok-turn_from.ensures.goes c.in_ok-turn_from.ensures.order

pub returns-clause-over : goal.returns-clause-over
returns-clause-over c = c.due.ensures.over c.in_default.is

pub returns-clause-order : goal.returns-clause-order
returns-clause-order c = λ order s. (Drawn (draw_of c.loop-due.x) 0, c.loop-due.invariant.order order s)
