use Rattle.std.proofs.Common.{arith}
use mathlib.Core.Option.{none}
use Rattle.atomic_table.specs.Table.{step}
use Rattle.m386_arbiter.proofs.Turns.{passes_as, passed_idle, passed_own}
use Rattle.m386_arbiter.proofs.arbiter.leave.Goals as goal

pub fetch_add-requires : goal.fetch_add-requires
fetch_add-requires c = (c.requires.board.0, omega arith, passes_as _ _ _ _ _ c.requires.busy)

pub returns-clause-idle : goal.returns-clause-idle
returns-clause-idle c = passed_idle _ _ _ (step 0 0 0 0 none) 0 c.requires.busy c.fetch_add.ensures.2

pub returns-clause-own : goal.returns-clause-own
returns-clause-own c = passed_own _ _ _ (step 0 0 0 0 none) 0 c.requires.busy c.fetch_add.ensures.2
