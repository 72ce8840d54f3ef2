-- What is chosen is the best so far, or a candidate that is wide.
use Rattle.m386_encode.proofs.WideChosen.{sound_wide}
use Rattle.m386_encode.proofs.wide.with_wide.Goals as goal

pub returns-clause-wide : goal.returns-clause-wide
returns-clause-wide c = sound_wide c.args.op.now c.args.row.now c.args.narrow c.args.best c.with_choice.result c.requires.listed c.requires.full c.requires.best c.with_choice.ensures.sound c.with_choice.ensures.one
