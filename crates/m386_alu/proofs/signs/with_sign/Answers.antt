use Rattle.m386_alu.proofs.Magnitudes.{negated}
use Rattle.m386_alu.proofs.signs.with_sign.Goals as goal

pub returns-then-negative-clause-exact : goal.returns-then-negative-clause-exact
returns-then-negative-clause-exact c = rw (c.max_of_bits.ensures, c.if-negative.true) (negated c.args.bits c.args.magnitude c.requires.bits.1 c.requires.fits)
