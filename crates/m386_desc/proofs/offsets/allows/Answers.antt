use Rattle.m386_desc.proofs.Ends.{test-are_offsets}
use Rattle.m386_desc.proofs.offsets.allows.Goals as goal

pub returns-clause-exact : goal.returns-clause-exact
returns-clause-exact c = test-are_offsets _ _ _ _ c.allows_each.ensures
