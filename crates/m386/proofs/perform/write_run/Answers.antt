use Rattle.m386.proofs.Runs.{text_of_run}
use Rattle.m386.proofs.perform.write_run.Goals as goal

pub returns-in-Ok : goal.returns-in-Ok
returns-in-Ok g c asked allowed run = (_, text_of_run _ asked _ _ _ _ c.requires.valid allowed run c.requires.begins c.requires.first, rw c.as_slice.ensures at c.in-Ok.ensures.ok)

pub returns-in-Err : goal.returns-in-Err
returns-in-Err g c asked allowed run = (_, text_of_run _ asked _ _ _ _ c.requires.valid allowed run c.requires.begins c.requires.first, (rw c.as_slice.ensures at c.in-Err.ensures.err, c.in-Err.ensures.failed))
