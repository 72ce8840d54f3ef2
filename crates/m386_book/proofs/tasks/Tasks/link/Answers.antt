use Rattle.m386_book.proofs.Keeping.{keeps_link_none, link_result}
use Rattle.m386_book.proofs.tasks.Tasks.link.Goals as goal

pub returns-in-Some : goal.returns-in-Some
returns-in-Some c = link_result _ c.args.cpu c.in-Some.task _ _ _ _ c.requires c.in-Some.is c.make_live.ensures

pub returns-in-None : goal.returns-in-None
returns-in-None c = λ book k. keeps_link_none book c.args.cpu _ _ _ c.requires c.in-None.is k
