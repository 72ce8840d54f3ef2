use Rattle.std.proofs.Common.{◌≡◌, ◌∙◌, sym, ap, arith}
use Rattle.m386_book.proofs.Found.{so_far_all, so_far_found, so_far_missed}
use Rattle.m386_book.proofs.segments.segments_of.Goals as goal

pub returns : goal.returns
returns c = so_far_all c.args.image.now c.args.table.now _ _ _ _ c.requires c.loop-number-test.false c.loop-number.invariant

pub loop-number-preserved-in_default : goal.loop-number-preserved-in_default
loop-number-preserved-in_default c = so_far_missed c.args.image.now c.args.table.now c.loop-number.number _ _ _ c.requires c.loop-number-test.true (sym c.tss_in.ensures ∙ c.in_default.is) c.loop-number.invariant

pub loop-number-preserved : goal.loop-number-preserved
loop-number-preserved c =
    so_far_found c.args.image.now c.args.table.now c.loop-number.number _ _ _ _ _ _ c.in-Some.tss c.requires c.loop-number-test.true (sym c.tss_in.ensures ∙ c.in-Some.is) c.loop-number.invariant
    c.in_ok-add.ensures.bases c.in_ok-add.ensures.shared c.in_ok-add.ensures.busy
