use Rattle.std.proofs.Common.{arith}
use Rattle.m386_image.proofs.Sections.{takes_front, parts_take}
use Rattle.m386_image.proofs.section.next_section.Goals as goal

pub returns-then-bytes-lt8-clause-none : goal.returns-then-bytes-lt8-clause-none
returns-then-bytes-lt8-clause-none c _ s rest t = let h = takes_front c.args.bytes.now s rest t in omega (arith, h.room)

pub returns-then-body-len-clause-none : goal.returns-then-body-len-clause-none
returns-then-body-len-clause-none c _ s rest t = let h = takes_front c.args.bytes.now s rest t in omega (arith, h.room)

pub returns-clause-some : goal.returns-clause-some
returns-clause-some c =
    parts_take c.args.bytes.now c.read_u32.result c.read_u32-len.result c.split_at.result.1.now c.split_at-2.result.0.now c.split_at-2.result.1.now (λ i. omega (arith, c.type_inv.bytes i)) (omega arith)
    c.read_u32.ensures c.read_u32-len.ensures c.split_at.ensures.back (omega arith) c.split_at-2.ensures.front c.split_at-2.ensures.back
