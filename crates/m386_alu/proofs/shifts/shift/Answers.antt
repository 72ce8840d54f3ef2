use Rattle.m386_alu.proofs.Keeping.{shift_keeps}
use Rattle.m386_alu.proofs.Results.{shift_fits}
use Rattle.m386_alu.proofs.shifts.shift.Goals as goal

pub returns-clause-fits : goal.returns-clause-fits
returns-clause-fits c = rw c.shift_by.ensures (shift_fits c.args.op c.args.width c.args.a c.args.count c.args.flags c.requires)

pub returns-clause-others : goal.returns-clause-others
returns-clause-others c = rw c.shift_by.ensures (shift_keeps c.args.op c.args.width c.args.a c.args.count c.args.flags)
