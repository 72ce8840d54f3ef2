-- Where attempts stand.
use Rattle.m386_step.proofs.Standing.{attempts_stand, none_outside}
use Rattle.m386_step.proofs.laws.cycles_of_a_switch_stand_in_attempts.Goals as goal

pub returns-clause-behind : goal.returns-clause-behind
returns-clause-behind c = attempts_stand

pub returns-clause-none : goal.returns-clause-none
returns-clause-none c = none_outside
