use Rattle.m386_asm.proofs.Unique.{lays_out_once}
use Rattle.m386_asm.proofs.laws.lays_out_once.Goals as goal

pub returns : goal.returns
returns c = lays_out_once
