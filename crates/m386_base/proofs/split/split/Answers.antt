use Rattle.m386_base.proofs.Access.{access_of}
use Rattle.m386_base.proofs.Groups.{groups_of}
use Rattle.m386_base.proofs.split.split.Goals as goal

pub returns-clause-groups : goal.returns-clause-groups
returns-clause-groups c = rw c.pieces_of.ensures (groups_of c.args.space c.args.addr c.args.len c.requires)

pub returns-clause-access : goal.returns-clause-access
returns-clause-access c = rw c.pieces_of.ensures (access_of c.args.space c.args.addr c.args.len c.requires)
