use Rattle.m386_alu.proofs.Keeping.{double_shift_keeps}
use Rattle.m386_alu.proofs.Results.{double_shift_fits}
use Rattle.m386_alu.proofs.double_shifts.double_shift.Goals as goal

pub returns-clause-fits : goal.returns-clause-fits
returns-clause-fits c =
    rw c.double_shift_by.ensures
    (double_shift_fits c.args.left c.args.width c.args.a c.args.b c.args.count c.args.flags c.requires.a_fits c.requires.b_fits)

pub returns-clause-others : goal.returns-clause-others
returns-clause-others c =
    rw c.double_shift_by.ensures (double_shift_keeps c.args.left c.args.width c.args.a c.args.b c.args.count c.args.flags)
