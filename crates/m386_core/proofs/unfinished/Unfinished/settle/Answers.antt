use Rattle.std.proofs.Common.{rules, ◌≡◌, ◌≢◌, ◌<◌, ◌∙◌, length, arith, sym, ap}
use Rattle.m386_base.specs.declared.ask.Ask.{Ask}
use Rattle.m386_state.specs.declared.proc.Mode.TheVariants.{Shutdown}
use Rattle.m386_core.specs.Plans.{entries_left}
use Rattle.m386_core.proofs.UnfinishedSteps.{settles_on, settles_at, opens_at}
use Rattle.m386_core.proofs.unfinished.Unfinished.settle.Goals as goal

pub returns-then-len-gt0-clause-stands : goal.returns-then-len-gt0-clause-stands
returns-then-len-gt0-clause-stands c =
    let lives : c.loop-end.end.after.mode ≢ Shutdown = search rules in
    let some : 0 < length c.foresee.new.self.cycles.items = omega (arith, c.len.ensures.value) in
    λ q s ts h. rw c.foresee.ensures.plan (settles_at c.args.budget q s c.begun-begun.result ts c.loop-end.end _ (entries_left c.args.cpu c.loop-end.self.plan) c.deref.result.now _ c.asked.result c.loop-end-test.true lives (c.begun-begun.ensures.begun c.args.cpu) c.foresee.ensures.foresees (c.foresee.ensures.answers ∙ c.loop-end.invariant.none) some c.deref.ensures.0 c.asked.ensures (c.loop-end.invariant.steps q s ts h))

pub returns-then-len-gt0-clause-opens : goal.returns-then-len-gt0-clause-opens
returns-then-len-gt0-clause-opens c =
    let some : 0 < length c.foresee.new.self.cycles.items = omega (arith, c.len.ensures.value) in
    λ x e. (let is : c.asked.result ≡ x = cc in
    ap (λ (u : Ask). u.joined) (sym is) ∙ opens_at c.foresee.new.self.cycles.items c.deref.result.now _ c.asked.result some c.deref.ensures.0 c.asked.ensures c.foresee.ensures.foresees.opens)

pub loop-end-preserved : goal.loop-end-preserved
loop-end-preserved c =
    let lives : c.loop-end.end.after.mode ≢ Shutdown = search rules in
    let none : length c.foresee.new.self.cycles.items ≡ 0 = omega (arith, c.len.ensures.value) in
    record {
      within = omega arith;
      none = c.foresee.ensures.answers ∙ c.loop-end.invariant.none;
      steps = λ q s ts h. settles_on c.loop-end.end.steps q s c.loop-end.end.after c.begun-begun.result c.foresee.new.self.answers.items c.foresee.new.self.cycles.items c.foresee.new.self.after ts (entries_left c.args.cpu c.loop-end.self.plan) (entries_left c.args.cpu c.after-self.result) lives (c.begun-begun.ensures.begun c.args.cpu) (rw c.foresee.ensures.plan at c.after-self.ensures) c.foresee.ensures.foresees none (c.loop-end.invariant.steps q s ts h);
    }
