use Rattle.m386_memory.proofs.Histories.{IsRecord-empty}
use Rattle.m386_memory.proofs.history.Record.new.Goals as goal

pub invariant_of-result : goal.invariant_of-result
invariant_of-result c = rw (c.of-first.ensures, c.new.ensures.items) (IsRecord-empty c.args.store)
