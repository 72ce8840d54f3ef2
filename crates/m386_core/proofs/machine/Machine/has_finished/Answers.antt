use Rattle.std.proofs.Common.{◌<◌, sym}
use Rattle.m386_core.proofs.Counting.{finished_by_none}
use Rattle.m386_core.proofs.machine.Machine.has_finished.Goals as goal

pub returns : goal.returns
returns c =
    let i = c.self.inside in
    let below : c.args.cpu < i.cpus = rw (← c.self.view_is) at c.requires in
    rw (← c.self.view_is) (finished_by_none i.image.now i.cpus i.budget i.log.first i.log.cycles i.ends.items i.unfinished.items i.midgroup c.self.invariant c.args.cpu c.index.result.now below (sym c.index.ensures) c.is_none.result c.is_none.ensures)
