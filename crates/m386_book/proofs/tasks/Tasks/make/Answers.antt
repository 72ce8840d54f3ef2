use Rattle.std.proofs.lemmas.Result.{on_ok_weaker}
use Rattle.m386_book.proofs.Keeping.{move_none, move_some}
use Rattle.m386_book.proofs.tasks.Tasks.make.Goals as goal

pub returns-in-Some : goal.returns-in-Some
returns-in-Some c = on_ok_weaker _ (move_some c.args.cpu c.in-Some.task c.args.what c.args.task _ _ _ _ _ _ c.in-Some.is) c.make_of.ensures

pub returns-in-None : goal.returns-in-None
returns-in-None c = on_ok_weaker _ (move_none c.args.cpu c.args.what c.args.task _ _ _ _ _ _ c.in-None.is) c.make_of_none.ensures
