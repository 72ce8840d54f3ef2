use Rattle.m386_memory.proofs.Sizes.{fresh_is_sized}
use Rattle.m386_memory.proofs.store.Store.new.Goals as goal

pub invariant_of-result : goal.invariant_of-result
invariant_of-result c =
    fresh_is_sized _ _ c.args.size (rw c.in_ok-memory.was at c.zeros_of.ensures) (rw c.in_ok-ports.was at c.zeros_of-2.ensures) c.requires.pages c.requires.least c.requires.most
