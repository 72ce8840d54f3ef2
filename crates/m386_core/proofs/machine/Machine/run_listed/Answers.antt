use Rattle.std.proofs.Common.{◌<◌, ◌≤◌, drop, ◌∙◌, sym, subst, ap, get_or, Ok}
use Rattle.m386_core.specs.Machine.{MachineView}
use Rattle.m386_core.specs.Order.{listed}
use Rattle.m386_core.specs.Running.{OrderAt}
use Rattle.m386_core.proofs.Groups.{made_not_passed}
use Rattle.m386_core.proofs.Runs.{listed_begin, listed_skips, listed_next, listed_all, within}
use Rattle.m386_core.proofs.Turning.{match_err, err_differs, made_differs}
use Rattle.m386_core.proofs.machine.Machine.run_listed.Goals.{then-cpu-cpus+in_ok-next, else-cpu-cpus}
use Rattle.m386_core.proofs.machine.Machine.run_listed.Goals as goal

pub loop-cpu-init : goal.loop-cpu-init
loop-cpu-init c = listed_begin c.args.members.now c.args.self.now c.cpus-cpus.ensures.kept

pub returns-in_err-next-clause-order : goal.returns-in_err-next-clause-order
returns-in_err-next-clause-order c = λ order s. match_err c.from_residual.result _ _ c.from_residual.ensures.0 (λ _. (listed (within c.args.self.now.cpus (drop c.loop-cpu.cpu-index c.args.members.now)), subst (λ (m : MachineView). OrderAt order m (listed (within c.args.self.now.cpus (drop c.loop-cpu.cpu-index c.args.members.now)))) (sym (c.in_err-next.ensures.same err_differs)) (c.loop-cpu.invariant.order order s)))

pub loop-cpu-preserved : goal.loop-cpu-preserved
loop-cpu-preserved c = elim c.if-cpu-cpus.branch [
  | then-cpu-cpus+in_ok-next w ↦
      let below : get_or c.args.members.now c.loop-cpu.cpu-index 0 < c.args.self.now.cpus = rw c.cpus-cpus.ensures.cpus at w.if-cpu-cpus.true in
      rw w.self-is (listed_next c.args.members.now c.args.self.now c.loop-cpu.self w.next.new.self c.loop-cpu.cpu-index w.in_ok-next.field-0 c.loop-cpu-test.true c.loop-cpu.invariant below
      (λ t. (w.in_ok-next.ensures.same (made_differs w.in_ok-next.field-0 t), w.in_ok-next.ensures.passed.0 (ap Ok t)))
      (λ t. (w.in_ok-next.ensures.made (ap Ok t), w.in_ok-next.ensures.goes.kept, λ h. made_not_passed (sym (ap Ok t) ∙ w.in_ok-next.ensures.passed.1 h))))
  | else-cpu-cpus w ↦
      let past : c.args.self.now.cpus ≤ get_or c.args.members.now c.loop-cpu.cpu-index 0 = rw c.cpus-cpus.ensures.cpus at w.if-cpu-cpus.false in
      rw w.self-is (listed_skips c.args.members.now c.args.self.now c.loop-cpu.self c.loop-cpu.cpu-index c.loop-cpu-test.true c.loop-cpu.invariant past)
]

pub returns-clause-order : goal.returns-clause-order
returns-clause-order c = listed_all c.args.members.now c.args.self.now c.loop-cpu.self c.loop-cpu.cpu-index c.loop-cpu-test.false c.loop-cpu.invariant
