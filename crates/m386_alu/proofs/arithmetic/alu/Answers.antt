use Rattle.m386_alu.proofs.Keeping.{alu_keeps}
use Rattle.m386_alu.proofs.Results.{alu_fits}
use Rattle.m386_alu.proofs.arithmetic.alu.Goals as goal

pub returns-clause-fits : goal.returns-clause-fits
returns-clause-fits c = rw c.calculate.ensures (alu_fits c.args.op c.args.width c.args.a c.args.b c.args.flags c.requires.a_fits c.requires.b_fits)

pub returns-clause-others : goal.returns-clause-others
returns-clause-others c = rw c.calculate.ensures (alu_keeps c.args.op c.args.width c.args.a c.args.b c.args.flags)
