use Rattle.std.proofs.Common.{◌≡◌}
use Rattle.std.proofs.lemmas.Bool.{iff_false}
use Rattle.m386_book.proofs.Guarded.{among_themselves, at_work, fails_four, fails_five, fails_none}
use Rattle.m386_book.proofs.rules.failed_static.Goals as goal

pub returns-then-segments : goal.returns-then-segments
returns-then-segments c =
    fails_four c.args.image.now c.requires.inside (iff_false c.tss_is_outside.ensures c.if-tss_is_outside.false) (iff_false c.tss_meets_gdt.ensures c.if-tss_meets_gdt.false)
    ((among_themselves c.args.image.now _ _ _ c.requires.segments).0 c.if-segments.true)

pub returns-then-segments-2 : goal.returns-then-segments-2
returns-then-segments-2 c =
    fails_five c.args.image.now c.requires.inside (iff_false c.tss_is_outside.ensures c.if-tss_is_outside.false) (iff_false c.tss_meets_gdt.ensures c.if-tss_meets_gdt.false)
    (iff_false (among_themselves c.args.image.now _ _ _ c.requires.segments) c.if-segments.false)
    ((at_work c.args.image.now _ _ _ c.requires.segments).0 c.if-segments-2.true)
