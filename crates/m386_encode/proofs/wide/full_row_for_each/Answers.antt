-- What a row has in fewer bytes another row has in full.
use Rattle.m386_encode.proofs.Fuller.{full_beside}
use Rattle.m386_encode.proofs.wide.full_row_for_each.Goals as goal

pub returns : goal.returns
returns c r = full_beside r
