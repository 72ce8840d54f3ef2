use Rattle.std.proofs.Common.{◌<◌, ◌^◌, length, arith}
use Rattle.m386_core.proofs.Counting.{few_cycles}
use Rattle.m386_core.proofs.Keeping.{kept_machine}
use Rattle.m386_core.proofs.machine.Machine.cycles.Goals as goal

pub overflow_cast-result : goal.overflow_cast-result
overflow_cast-result c =
    let i = c.self.inside in
    let few : length i.log.cycles < 2 ^ 32 = few_cycles _ (kept_machine i.image.now i.cpus i.budget i.log.first i.log.cycles i.ends.items i.unfinished.items i.midgroup c.self.invariant) in
    rw c.cycles.ensures.cycles (omega (arith, few))

pub returns-clause-kept : goal.returns-clause-kept
returns-clause-kept c =
    let i = c.self.inside in
    rw (← c.self.view_is) (kept_machine i.image.now i.cpus i.budget i.log.first i.log.cycles i.ends.items i.unfinished.items i.midgroup c.self.invariant)
