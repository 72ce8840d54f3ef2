use Rattle.m386_core.proofs.counted.CountedTurns.finished.Goals as goal

pub returns : goal.returns
returns c = rw (← c.self.view_is) c.has_finished.ensures
