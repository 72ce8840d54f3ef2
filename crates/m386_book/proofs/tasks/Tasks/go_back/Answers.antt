use Rattle.std.proofs.Common.{refl}
use Rattle.m386_book.proofs.Keeping.{return_keeps}
use Rattle.m386_book.proofs.tasks.Tasks.go_back.Goals as goal

pub returns : goal.returns
returns c = λ book number e k.
    return_keeps book number c.args.cpu c.args.task _ _ _ _ _ _ _ _ c.requires c.deref.ensures.value c.waiter.ensures refl c.end_by.ensures c.end_life.ensures e k
