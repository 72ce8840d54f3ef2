use Rattle.std.proofs.Common.{refl}
use Rattle.m386_image.proofs.Sections.{takes_next}
use Rattle.m386_image.proofs.section.sections_of.Goals as goal

pub unreachable-requires : goal.unreachable-requires
unreachable-requires c =
    let r = c.requires in
    let next = takes_next c.loop.counter c.args.count c.args.bytes.now c.loop.sections r.0 c.loop.rest.now r.1 c.loop-test.true c.loop.invariant r.2 in
    let none = rw c.in_default.is at c.next_section.ensures.none in
    none refl next.0 next.1 next.2
