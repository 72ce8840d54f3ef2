use Rattle.m386.proofs.perform.verdict_on.Goals as goal

pub returns : goal.returns
returns c = rw c.cycles.ensures.cycles at c.clean.ensures
