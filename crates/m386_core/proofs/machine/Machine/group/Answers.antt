use Rattle.std.proofs.Common.{rules, ◌≡◌, ◌≢◌, ℕ, ◌∙◌, sym, Ok, Some, ap, subst}
use Rattle.m386_turns.specs.declared.turns.Turn.TheVariants as turns
use Rattle.m386_core.specs.Machine.{HasAmidGroup}
use Rattle.m386_core.proofs.Groups.{group_one, group_more, amid_not_passed, room_shrinks, turn_made, made_not_passed}
use Rattle.m386_core.proofs.machine.Machine.group.Goals as goal

pub loop-self-init : goal.loop-self-init
loop-self-init c =
    let t : c.in_ok-next.field-0 ≡ turns.Made = turn_made c.in_ok-next.field-0 (search rules) in
    group_one c.args.cpu c.args.self.now c.next.new.self (λ h. made_not_passed (sym (ap Ok t) ∙ c.in_ok-next.ensures.passed.1 h)) (c.in_ok-next.ensures.made (ap Ok t)) c.in_ok-next.ensures.goes.kept

pub loop-self-smaller : goal.loop-self-smaller
loop-self-smaller c =
    let named : c.midgroup.result ≡ Some c.args.cpu = search rules in
    let amid : HasAmidGroup c.loop-self.self c.args.cpu = (c.midgroup.ensures.named c.args.cpu).0 named in
    let t : c.in_ok-next-2.field-0 ≡ turns.Made = turn_made c.in_ok-next-2.field-0 (λ e. amid_not_passed c.args.cpu c.args.self.now c.loop-self.self c.loop-self.invariant amid (c.in_ok-next-2.ensures.passed.0 (ap Ok e))) in
    room_shrinks c.args.cpu c.loop-self.self c.next-in-loop-self.new.self c.in_ok-next-2.ensures.goes.kept (c.in_ok-next-2.ensures.made (ap Ok t))

pub loop-self-preserved : goal.loop-self-preserved
loop-self-preserved c =
    let named : c.midgroup.result ≡ Some c.args.cpu = search rules in
    let amid : HasAmidGroup c.loop-self.self c.args.cpu = (c.midgroup.ensures.named c.args.cpu).0 named in
    let t : c.in_ok-next-2.field-0 ≡ turns.Made = turn_made c.in_ok-next-2.field-0 (λ e. amid_not_passed c.args.cpu c.args.self.now c.loop-self.self c.loop-self.invariant amid (c.in_ok-next-2.ensures.passed.0 (ap Ok e))) in
    group_more c.args.cpu c.args.self.now c.loop-self.self c.next-in-loop-self.new.self c.loop-self.invariant amid (c.in_ok-next-2.ensures.made (ap Ok t)) c.in_ok-next-2.ensures.goes.kept

pub returns-clause-closed : goal.returns-clause-closed
returns-clause-closed c =
    let unnamed : c.midgroup.result ≢ Some c.args.cpu = search rules in
    λ _ q h. unnamed ((c.midgroup.ensures.named c.args.cpu).1 (subst (λ (p : ℕ). HasAmidGroup c.loop-self.self p) (c.loop-self.invariant.alone q h) h))
