use Rattle.m386_book.proofs.Keeping.{link_of_none, no_move}
use Rattle.m386_book.proofs.tasks.Tasks.make_of_none.Goals as goal

pub returns-in-Link : goal.returns-in-Link
returns-in-Link c = link_of_none _ c.args.cpu c.args.what _ _ _ _ _ _ c.in-Link.is c.link.ensures

pub returns-in_default : goal.returns-in_default
returns-in_default c = λ book k. no_move c.args.cpu c.args.what book _ _ _ c.in_default.not-Link k
