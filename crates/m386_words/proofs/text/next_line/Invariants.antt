-- No byte looked at is a line feed.
use Rattle.m386_words.proofs.Feeds.{NoFeed}
use Rattle.m386_words.proofs.text.next_line.Given as goal

abbrev pub invariant-loop-index : goal.invariant-loop-index
invariant-loop-index l = NoFeed l.index l.text
