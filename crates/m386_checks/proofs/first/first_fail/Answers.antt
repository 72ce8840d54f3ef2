use Rattle.m386_checks.proofs.Meaning.{first_none, first_context}
use Rattle.m386_checks.proofs.first.first_fail.Goals as goal

pub returns-clause-none : goal.returns-clause-none
returns-clause-none c = first_none _ _ c.first_of_table.ensures

pub returns-clause-context : goal.returns-clause-context
returns-clause-context c = first_context _ _ c.first_of_table.ensures
