use Rattle.m386_asm.proofs.Existing.{laid_somehow}
use Rattle.m386_asm.proofs.laws.laid_somehow.Goals as goal

pub returns : goal.returns
returns c = laid_somehow
