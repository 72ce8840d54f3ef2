use Rattle.m386_book.proofs.Failures.{clean_front, one_first_failure}
use Rattle.m386_book.proofs.laws.first_failure_laws.Goals as goal

pub returns-clause-one : goal.returns-clause-one
returns-clause-one c = one_first_failure

pub returns-clause-fronts : goal.returns-clause-fronts
returns-clause-fronts c = clean_front
