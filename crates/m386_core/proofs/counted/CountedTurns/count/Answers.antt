use Rattle.m386_core.proofs.Counting.{lawful_groups, one_amid}
use Rattle.m386_core.proofs.counted.CountedTurns.count.Goals as goal

pub returns-clause-lawful : goal.returns-clause-lawful
returns-clause-lawful c =
    let m = c.self.inside.machine in
    rw (← c.self.view_is) (lawful_groups m (one_amid m c.midgroup.result c.midgroup.ensures.named))
