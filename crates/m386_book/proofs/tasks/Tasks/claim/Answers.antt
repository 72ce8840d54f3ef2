use Rattle.std.proofs.Common.{refl}
use Rattle.m386_book.proofs.Keeping.{claim_keeps}
use Rattle.m386_book.proofs.tasks.Tasks.claim.Goals as goal

pub returns : goal.returns
returns c = λ book number e k.
    claim_keeps book number c.args.cpu c.args.task c.args.waits _ _ _ _ _ _ _ _ c.requires refl c.end_by.ensures c.in_ok-add.ensures c.end_life.ensures refl e k
