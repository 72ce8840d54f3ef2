use Rattle.std.proofs.Common.{◌≡◌, arith}
use Rattle.m386_book.proofs.Found.{base_added}
use Rattle.m386_book.proofs.segments.add_base.Goals as goal

pub returns : goal.returns
returns c =
    rw c.in_ok-insert.ensures.items (base_added c.args.bases.now.items c.args.base c.count_below-place.result c.requires
    (rw c.deref.ensures.value at c.count_below-place.ensures.within)
    (rw (c.deref.ensures.value, c.from.ensures) at c.count_below-place.ensures.below)
    (rw (c.deref.ensures.value, c.from.ensures) at c.count_below-place.ensures.above))
