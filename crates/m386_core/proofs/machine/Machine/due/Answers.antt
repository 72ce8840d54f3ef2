use Rattle.std.proofs.Common.{◌≡◌, ◌∙◌, sym, ℕ, None, true, subst, arith}
use Rattle.std.specs.Option.{is_some}
use Rattle.m386_core.specs.declared.unfinished.Unfinished.{Unfinished}
use Rattle.m386_core.specs.Place.{IsPassedOver}
use Rattle.m386_core.proofs.Keeping.{none_of, some_same, parts_of, kept_machine, named_not_passed, open_not_passed, finished_at}
use Rattle.m386_core.proofs.machine.Machine.due.Goals as goal

pub returns-then-is_some-clause-due : goal.returns-then-is_some-clause-due
returns-then-is_some-clause-due c =
    let i = c.self.inside in
    rw (← c.self.view_is) (named_not_passed i.image.now i.cpus i.budget i.log.first i.log.cycles i.ends.items i.unfinished.items i.midgroup c.self.invariant)

pub returns-then-is_some-clause-kept : goal.returns-then-is_some-clause-kept
returns-then-is_some-clause-kept c =
    let i = c.self.inside in
    rw (← c.self.view_is) (kept_machine i.image.now i.cpus i.budget i.log.first i.log.cycles i.ends.items i.unfinished.items i.midgroup c.self.invariant)

pub returns-then-is_some-2-clause-due : goal.returns-then-is_some-2-clause-due
returns-then-is_some-2-clause-due c =
    let i = c.self.inside in
    let none : i.midgroup ≡ None = none_of i.midgroup (sym c.is_some.ensures ∙ c.if-is_some.false) in
    let some : is_some c.index.result.now.next ≡ true = sym c.is_some-in-loop-cpu.ensures ∙ c.if-is_some-2.true in
    let lives = open_not_passed i.image.now i.cpus i.budget i.log.first i.log.cycles i.ends.items i.unfinished.items i.midgroup c.self.invariant c.loop-cpu.cpu c.index.result.now none c.loop-cpu-test.true (sym c.index.ensures) some in
    rw (← c.self.view_is) (λ x e. subst (λ (p : ℕ). IsPassedOver i.image.now i.cpus i.budget i.log.cycles p → ⊥) (some_same c.loop-cpu.cpu x e) lives)

pub returns-then-is_some-2-clause-kept : goal.returns-then-is_some-2-clause-kept
returns-then-is_some-2-clause-kept c =
    let i = c.self.inside in
    rw (← c.self.view_is) (kept_machine i.image.now i.cpus i.budget i.log.first i.log.cycles i.ends.items i.unfinished.items i.midgroup c.self.invariant)

pub returns-clause-over : goal.returns-clause-over
returns-clause-over c =
    let i = c.self.inside in
    rw (← c.self.view_is) (λ _ p lt. (
    let s = parts_of i.image.now i.cpus i.budget i.log.first i.log.cycles i.ends.items i.unfinished.items i.midgroup c.self.invariant p lt in
    let none : s.step.next ≡ None = subst (λ (t : Unfinished). t.next ≡ None) s.step_is (c.loop-cpu.invariant p s.step (omega arith)) in
    finished_at i.image.now i.cpus i.budget i.log.first i.log.cycles i.ends.items i.unfinished.items i.midgroup c.self.invariant p s.step lt s.step_is none))

pub returns-clause-kept : goal.returns-clause-kept
returns-clause-kept c =
    let i = c.self.inside in
    rw (← c.self.view_is) (kept_machine i.image.now i.cpus i.budget i.log.first i.log.cycles i.ends.items i.unfinished.items i.midgroup c.self.invariant)
