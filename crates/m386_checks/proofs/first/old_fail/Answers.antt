use Rattle.m386_checks.proofs.Meaning.{old_first}
use Rattle.m386_checks.specs.First.{old_fail_of}
use Rattle.m386_checks.proofs.first.old_fail.Goals as goal

pub returns-clause-first : goal.returns-clause-first
unfolding old_fail_of
returns-clause-first c = old_first _ _ c.first_of_rows.ensures
