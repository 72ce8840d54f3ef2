use Rattle.std.proofs.Common.{◌≡◌}
use Rattle.m386_book.proofs.Guarded.{iff_then, outside}
use Rattle.m386_book.proofs.rules.tss_is_outside.Goals as goal

pub returns : goal.returns
returns c = iff_then (rw (c.deref.ensures.value, c.from.ensures) at c.ends_behind.ensures) (outside c.args.image.now c.args.segments.now.bases.items c.args.segments.now.shared c.args.segments.now.busy c.requires)
