use Rattle.std.proofs.Common.{◌++◌, ◌∷◌, [], inl, inr}
use Rattle.m386_core.specs.Plans.{entries_left}
use Rattle.m386_core.specs.Unfinished.{Foresees}
use Rattle.m386_core.proofs.UnfinishedSteps.{hears_foreseen, hears_anew}
use Rattle.m386_core.proofs.unfinished.Unfinished.take.Goals as goal
use Rattle.m386_core.proofs.unfinished.Unfinished.take.Goals.{then-foreseen-via-then-foreseen, then-foreseen-via-else-foreseen+then-foreseen-value}

pub returns-then-foreseen-clause-hears : goal.returns-then-foreseen-clause-hears
returns-then-foreseen-clause-hears c = elim c.then-foreseen.branch [
  | then-foreseen-via-then-foreseen b ↦ λ n q s ts cpu ask w enabled none. rw c.push.ensures.items (hears_foreseen n q s ts c.args.end.now c.args.self.now (entries_left cpu c.args.self.now.plan) ask _ c.args.value c.len.result c.deref.result.now w enabled none c.deref.ensures.0 c.len.ensures.value (inl b.if-foreseen.true))
  | then-foreseen-via-else-foreseen+then-foreseen-value b ↦ λ n q s ts cpu ask w enabled none. rw c.push.ensures.items (hears_foreseen n q s ts c.args.end.now c.args.self.now (entries_left cpu c.args.self.now.plan) ask _ c.args.value c.len.result c.deref.result.now w enabled none c.deref.ensures.0 c.len.ensures.value (inr b.if-foreseen-value.true))
]

pub returns-clause-hears : goal.returns-clause-hears
returns-clause-hears c =
    let h : Foresees c.begun-begun.result (c.args.self.now.answers.items ++ c.args.value ∷ []) c.foresee.new.self.cycles.items c.foresee.new.self.after = rw (c.foresee.ensures.answers, c.push.ensures.items) at c.foresee.ensures.foresees in
    λ n q s ts cpu ask w enabled none. rw (c.foresee.ensures.answers, c.push.ensures.items) (hears_anew n q s c.begun-begun.result ts c.args.end.now c.args.self.now (entries_left cpu c.args.self.now.plan) ask c.args.value c.foresee.new.self.cycles.items c.foresee.new.self.after w (c.begun-begun.ensures.begun cpu) enabled none h)
