use Rattle.m386_exclusion.proofs.Exclusion.{excludes, excludes_fronts}
use Rattle.m386_exclusion.proofs.laws.no_two_processors_hold_one_task.Goals as goal

pub returns-clause-histories : goal.returns-clause-histories
returns-clause-histories c = excludes

pub returns-clause-fronts : goal.returns-clause-fronts
returns-clause-fronts c = excludes_fronts
