use Rattle.m386_alu.proofs.Magnitudes.{below_fits, above_fits}
use Rattle.m386_alu.proofs.signs.fits_signed.Goals as goal

pub returns-then-negative : goal.returns-then-negative
returns-then-negative c = rw (c.max_of_bits-most.ensures, c.if-negative.true) (below_fits c.args.bits c.args.magnitude c.requires.bits.0)

pub returns-else-negative : goal.returns-else-negative
returns-else-negative c = rw (c.max_of_bits-most.ensures, c.if-negative.false) (above_fits c.args.bits c.args.magnitude c.requires.bits.0)
