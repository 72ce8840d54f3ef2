use Rattle.std.proofs.Common.{◌≡◌, ◌∙◌, sym, ap, refl, length, Some}
use Rattle.m386_base.specs.Replay.{replay, Found, Lacks}
use Rattle.m386_base.proofs.Probing.{probe_whole, probe_wants}
use Rattle.m386_step.specs.declared.answer.Probe.TheVariants.{Wants}
use Rattle.m386_step.specs.Step.{step_phrase}
use Rattle.m386_step.proofs.probe.probe.Goals as goal

pub returns-in-Ok-clause-replayed : goal.returns-in-Ok-clause-replayed
returns-in-Ok-clause-replayed c =
    let r : c.advance.new.bus.reads.now ≡ c.args.reads.now = c.in-Ok.ensures.cycles.same.origin ∙ c.new-bus.ensures.reads in
    let l : replay (step_phrase c.args.p.now) c.advance.new.bus.reads.now ≡ Found c.advance.new.p (length c.advance.new.bus.asks.items) = probe_whole (step_phrase c.args.p.now) _ _ c.advance.new.p c.advance.new.bus.reads.now c.in-Ok.ensures.cycles c.new-bus.ensures.fresh c.advance.new.bus.told in
    let m : replay (step_phrase c.args.p.now) c.args.reads.now ≡ Found c.advance.new.p (length c.advance.new.bus.asks.items) = rw r at l in
    rw (m, c.made.ensures.made) refl

pub returns-in-Some-clause-replayed : goal.returns-in-Some-clause-replayed
returns-in-Some-clause-replayed c =
    let r : c.advance.new.bus.reads.now ≡ c.args.reads.now = c.in-Err.ensures.cycles.leaves.origin ∙ c.new-bus.ensures.reads in
    let w = probe_wants (step_phrase c.args.p.now) _ _ c.in-Err.field-0 c.advance.new.bus.reads.now c.in-Err.ensures.cycles c.new-bus.ensures.fresh c.advance.new.bus.told c.advance.new.bus.used in
    let m : replay (step_phrase c.args.p.now) c.args.reads.now ≡ Lacks w.ask = ap (replay (step_phrase c.args.p.now)) (sym r) ∙ w.replayed in
    let s : Some c.in-Some.ask ≡ Some w.ask = sym c.in-Some.is ∙ c.wanted_last.ensures ∙ w.wanted in
    let e : c.in-Some.ask ≡ w.ask = cc in
    rw m (ap Wants e)

pub returns-in-Some-clause-lawful : goal.returns-in-Some-clause-lawful
returns-in-Some-clause-lawful c = c.advance.new.bus.lawful c.in-Some.ask (sym c.wanted_last.ensures ∙ c.in-Some.is)

pub returns-in-Some-clause-opens : goal.returns-in-Some-clause-opens
returns-in-Some-clause-opens c =
    let r : c.advance.new.bus.reads.now ≡ c.args.reads.now = c.in-Err.ensures.cycles.leaves.origin ∙ c.new-bus.ensures.reads in
    λ none. c.advance.new.bus.opens (ap length r ∙ none) c.in-Some.ask (sym c.wanted_last.ensures ∙ c.in-Some.is)
