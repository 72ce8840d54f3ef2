use Rattle.m386_asm.proofs.drafted.Draft.take_header.Goals as goal

pub returns-in-Direct : goal.returns-in-Direct
returns-in-Direct c = rw c.in-Direct.is c.take_directive.ensures
