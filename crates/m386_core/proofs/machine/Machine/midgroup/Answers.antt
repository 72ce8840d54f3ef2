use Rattle.m386_core.proofs.Keeping.{kept_machine, amid_of_name, name_of_amid}
use Rattle.m386_core.proofs.machine.Machine.midgroup.Goals as goal

pub returns-clause-named : goal.returns-clause-named
returns-clause-named c =
    let i = c.self.inside in
    rw (← c.self.view_is) (λ q. (
      amid_of_name i.image.now i.cpus i.budget i.log.first i.log.cycles i.ends.items i.unfinished.items i.midgroup c.self.invariant q,
      name_of_amid i.image.now i.cpus i.budget i.log.first i.log.cycles i.ends.items i.unfinished.items i.midgroup c.self.invariant q,
    ))

pub returns-clause-kept : goal.returns-clause-kept
returns-clause-kept c =
    let i = c.self.inside in
    rw (← c.self.view_is) (kept_machine i.image.now i.cpus i.budget i.log.first i.log.cycles i.ends.items i.unfinished.items i.midgroup c.self.invariant)
