-- The place by the words left is the place among all.
use Rattle.std.proofs.Common.{◌≡◌}
use Rattle.m386_words.specs.Words.{place_among}
use Rattle.m386_lines.specs.Seen.{words_seen}
use Rattle.m386_lines.proofs.Tables.{left_place}
use Rattle.m386_lines.proofs.arguments.number_among.Given as goal

abbrev pub invariant-loop-number : goal.invariant-loop-number
invariant-loop-number l = left_place l.number l.words l.word ≡ place_among (words_seen l.words) l.word
