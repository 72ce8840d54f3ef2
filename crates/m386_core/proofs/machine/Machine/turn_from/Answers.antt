use Rattle.std.proofs.Common.{rules, ◌≡◌, ◌≢◌, ◌<◌, ℕ, ◌∙◌, sym, ap, subst, Ok}
use Rattle.m386_turns.specs.declared.turns.Turn.TheVariants as turns
use Rattle.m386_core.specs.Machine.{MachineView, MakesCycle, PassesOver}
use Rattle.m386_core.specs.Running.{gap}
use Rattle.m386_core.proofs.Groups.{turn_made, made_not_passed}
use Rattle.m386_core.proofs.Orders.{goes_cycle}
use Rattle.m386_core.proofs.Turning.{turn_passes, turn_makes, turn_fails, match_err, made_differs, err_differs}
use Rattle.m386_core.proofs.machine.Machine.turn_from.Goals as goal

pub returns-in_err-next-clause-order : goal.returns-in_err-next-clause-order
returns-in_err-next-clause-order c =
    λ order a f e r s. match_err c.from_residual.result _ _ c.from_residual.ensures.0 (λ _. turn_fails c.args.first c.args.self.now c.loop-self.self c.next.new.self c.loop-self.number c.loop-self.invariant (c.in_err-next.ensures.same err_differs) order a f e r s)

pub loop-self-smaller : goal.loop-self-smaller
loop-self-smaller c =
    let t : c.in_ok-next.field-0 ≡ turns.PassedOver = search rules in
    let same : c.next.new.self ≡ c.loop-self.self = c.in_ok-next.ensures.same (made_differs c.in_ok-next.field-0 t) in
    let over : PassesOver c.loop-self.self c.loop-self.number = c.in_ok-next.ensures.passed.0 (ap Ok t) in
    let over_old : PassesOver c.args.self.now c.loop-self.number = subst (λ (m : MachineView). PassesOver m c.loop-self.number) c.loop-self.invariant.unchanged over in
    let other : c.args.due ≢ c.loop-self.number = λ e. c.requires.due (subst (λ (p : ℕ). PassesOver c.args.self.now p) (sym e) over_old) in
    let count : c.cpus.result ≡ c.loop-self.self.cpus = c.cpus.ensures.cpus ∙ ap (λ (m : MachineView). m.cpus) same in
    let below : c.args.due < c.cpus.result = rw (count, c.loop-self.invariant.unchanged) c.requires.below in
    let nearer : gap c.loop-self.self.cpus c.in_turn-number.result c.args.due < gap c.loop-self.self.cpus c.loop-self.number c.args.due = rw count at (c.in_turn-number.ensures.nearer c.args.due below other) in
    rw same nearer

pub loop-self-preserved : goal.loop-self-preserved
loop-self-preserved c =
    let t : c.in_ok-next.field-0 ≡ turns.PassedOver = search rules in
    let same : c.next.new.self ≡ c.loop-self.self = c.in_ok-next.ensures.same (made_differs c.in_ok-next.field-0 t) in
    let over : PassesOver c.loop-self.self c.loop-self.number = c.in_ok-next.ensures.passed.0 (ap Ok t) in
    let count : c.cpus.result ≡ c.loop-self.self.cpus = c.cpus.ensures.cpus ∙ ap (λ (m : MachineView). m.cpus) same in
    turn_passes c.args.first c.args.self.now c.loop-self.self c.next.new.self c.loop-self.number c.in_turn-number.result c.loop-self.invariant same over (rw count at c.in_turn-number.ensures.below) (rw count at c.in_turn-number.ensures.follows)

-- the cycle that was made
makes : (c : goal.Else-eq) → MakesCycle c.loop-self.number c.loop-self.self c.next.new.self
makes c = c.in_ok-next.ensures.made (ap Ok (turn_made c.in_ok-next.field-0 (search rules)))

pub returns-clause-made : goal.returns-clause-made
returns-clause-made c = subst (λ (m : MachineView). MakesCycle c.loop-self.number m c.next.new.self) c.loop-self.invariant.unchanged (makes c)

pub returns-clause-goes : goal.returns-clause-goes
returns-clause-goes c = goes_cycle c.loop-self.number c.args.self.now c.next.new.self (returns-clause-made c) c.in_ok-next.ensures.goes.kept

pub returns-clause-order : goal.returns-clause-order
returns-clause-order c =
    let t : c.in_ok-next.field-0 ≡ turns.Made = turn_made c.in_ok-next.field-0 (search rules) in
    turn_makes c.args.first c.args.self.now c.loop-self.self c.next.new.self c.loop-self.number c.loop-self.invariant (makes c) (λ h. made_not_passed (sym (ap Ok t) ∙ c.in_ok-next.ensures.passed.1 h))
