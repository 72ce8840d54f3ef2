use Rattle.std.proofs.Common.{◌≡◌}
use Rattle.m386_book.proofs.Guarded.{iff_then, with_gdt}
use Rattle.m386_book.proofs.rules.tss_meets_gdt.Goals as goal

pub returns : goal.returns
returns c = iff_then (rw (c.deref.ensures.value, c.from-base.ensures, c.from.ensures) at c.meets.ensures) (with_gdt c.args.image.now c.args.segments.now.bases.items c.args.segments.now.shared c.args.segments.now.busy c.requires)
