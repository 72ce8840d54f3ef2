use Rattle.m386_alu.proofs.Magnitudes.{top_test}
use Rattle.m386_alu.proofs.signs.has_top_bit.Goals as goal

pub returns : goal.returns
returns c = rw c.max_of_bits.ensures (top_test c.args.bits c.args.number c.requires.0)
