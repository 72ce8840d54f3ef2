use Rattle.std.proofs.lemmas.Result.{err_from_is_err_and}
use Rattle.m386_base.proofs.Phrases.{completes_one, breaks_one}
use Rattle.m386_base.proofs.bus.cycle_or_fault.Goals as goal

pub returns-in_err-cycle-clause-cycles : goal.returns-in_err-cycle-clause-cycles
returns-in_err-cycle-clause-cycles g c =
    let p = err_from_is_err_and c.from_residual.result c.from_residual.ensures.1 in
    rw (p.1, p.2) (breaks_one _ c.in_err-cycle.ensures)

pub returns-clause-cycles : goal.returns-clause-cycles
returns-clause-cycles g c = completes_one c.in_ok-cycle.ensures
