use Rattle.std.proofs.Common.{◌≡◌, arith, [], None}
use Rattle.m386_step.specs.Run.{start_of, plan_of}
use Rattle.m386_core.specs.Plans.{entries_left}
use Rattle.m386_core.specs.Unfinished.{StepsLeaving, EndsOrWaits}
use Rattle.m386_core.proofs.Beginning.{kept_first, begun_more}
use Rattle.m386_core.proofs.Keeping.{kept_machine}
use Rattle.m386_core.proofs.Places.{leaves_all}
use Rattle.m386_core.proofs.machine.Machine.new.Goals as goal

pub loop-cpu-preserved : goal.loop-cpu-preserved
loop-cpu-preserved c =
    let q = plan_of c.args.image.now c.loop-cpu.cpu in
    let s = start_of c.args.image.now c.loop-cpu.cpu in
    let none : StepsLeaving 0 q 0 s [] c.start.result (entries_left c.loop-cpu.cpu c.new-first.result.plan) = rw (c.start.ensures, c.new-first.ensures.plan, c.of-plan.ensures, c.as_slice.ensures) (leaves_all q 0 s) in
    let new : EndsOrWaits c.args.steps q s [] c.settle.new.end c.settle.new.self (entries_left c.loop-cpu.cpu c.settle.new.self.plan) c.settle.new.self.next = c.settle.ensures.stands q s [] none in
    rw (c.in_ok-push.ensures.items, c.in_ok-push-2.ensures.items) (
    begun_more c.args.image.now c.args.steps c.loop-cpu.ends.items c.loop-cpu.unfinished.items c.loop-cpu.cpu c.settle.new.end c.settle.new.self c.loop-cpu.invariant new c.settle.ensures.opens)

pub invariant_of-result : goal.invariant_of-result
invariant_of-result c =
    let all : c.loop-cpu.cpu ≡ c.args.cpus = omega arith in
    rw c.new-log.ensures (kept_first c.args.image.now c.args.cpus c.args.steps c.in_ok-first_store.field-0 c.loop-cpu.ends.items c.loop-cpu.unfinished.items c.requires.valid c.requires.some c.requires.most c.requires.budget c.in_ok-first_store.ensures (rw all at c.loop-cpu.invariant))

pub returns-clause-kept : goal.returns-clause-kept
returns-clause-kept c =
    kept_machine c.args.image.now c.args.cpus c.args.steps c.new-log.result.first c.new-log.result.cycles c.loop-cpu.ends.items c.loop-cpu.unfinished.items None (invariant_of-result c)
