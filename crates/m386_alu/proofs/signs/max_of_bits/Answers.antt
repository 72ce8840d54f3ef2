use Rattle.m386_alu.proofs.Magnitudes.{ones_of}
use Rattle.m386_alu.proofs.signs.max_of_bits.Goals as goal

pub returns : goal.returns
returns c = ones_of c.args.bits c.requires.1
