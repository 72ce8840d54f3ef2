use Rattle.m386_alu.proofs.Quotients.{div_fits}
use Rattle.m386_alu.proofs.division.div.Goals as goal

pub returns-clause-fits : goal.returns-clause-fits
returns-clause-fits c = rw c.divide.ensures (div_fits c.args.signed c.args.width c.args.high c.args.low c.args.by c.requires.by_fits)
