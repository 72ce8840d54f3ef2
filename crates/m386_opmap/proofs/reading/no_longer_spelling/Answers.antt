-- A spelling is read whatever follows it.
use Rattle.m386_opmap.proofs.Laws.{no_longer_spelling}
use Rattle.m386_opmap.proofs.reading.no_longer_spelling.Goals as goal

pub returns : goal.returns
returns c op other bytes rest = no_longer_spelling op other bytes rest
