use Rattle.m386_core.proofs.Keeping.{kept_machine}
use Rattle.m386_core.proofs.machine.Machine.ended.Goals as goal

pub returns-clause-kept : goal.returns-clause-kept
returns-clause-kept c =
    let i = c.self.inside in
    rw (← c.self.view_is) (kept_machine i.image.now i.cpus i.budget i.log.first i.log.cycles i.ends.items i.unfinished.items i.midgroup c.self.invariant)
