use Rattle.m386_book.proofs.Keeping.{release_keeps}
use Rattle.m386_book.proofs.tasks.Tasks.release.Goals as goal

pub returns : goal.returns
returns c = λ book number e k. release_keeps book number c.args.task _ _ _ _ _ _ c.end_of.ensures c.end_by.ensures c.end_life.ensures e k
