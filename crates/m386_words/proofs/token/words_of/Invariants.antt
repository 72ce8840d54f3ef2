-- The words so far, and those of what is left, are those of the line.
use Rattle.std.proofs.Common.{◌≡◌, ◌++◌, length, map}
use Rattle.m386_words.specs.Text.{tokens_of}
use Rattle.m386_words.specs.Tokens.{seen}
use Rattle.m386_words.proofs.token.words_of.Given as goal

abbrev pub invariant-loop-step : goal.invariant-loop-step
invariant-loop-step l = map seen l.words ++ tokens_of l.rest ≡ tokens_of l.line

abbrev pub decreases-loop-step : goal.decreases-loop-step
decreases-loop-step l = length l.rest
