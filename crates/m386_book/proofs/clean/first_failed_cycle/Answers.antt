use Rattle.m386_book.proofs.Walks.{clean_first, clean_more, clean_whole, first_at, keeps_first, keeps_more}
use Rattle.m386_book.proofs.clean.first_failed_cycle.Goals as goal

pub loop-index-init : goal.loop-index-init
loop-index-init c = record {
  book = keeps_first c.args.image.now c.args.cycles.now _ _ _ c.new-tasks.ensures;
  clean = clean_first c.args.image.now c.args.cycles.now;
}

pub loop-index-preserved : goal.loop-index-preserved
loop-index-preserved c = record {
  book = keeps_more c.args.image.now c.args.cycles.now c.loop-index.index _ _ _ _ c.loop-index-test.true (c.in_ok-follow.ensures _ c.loop-index.invariant.book);
  clean = clean_more c.args.image.now c.args.cycles.now c.loop-index.index _ c.loop-index-test.true (c.in_default.ensures _ c.loop-index.invariant.book) c.loop-index.invariant.clean;
}

pub returns-in-Some : goal.returns-in-Some
returns-in-Some c =
    first_at c.args.image.now c.args.cycles.now c.loop-index.index _ c.in-Some.rule c.loop-index-test.true c.requires.none (c.in-Some.ensures _ c.loop-index.invariant.book) c.loop-index.invariant.clean

pub returns : goal.returns
returns c = (c.requires.none, clean_whole c.args.image.now c.args.cycles.now c.loop-index.index c.loop-index-test.false c.loop-index.invariant.clean)
