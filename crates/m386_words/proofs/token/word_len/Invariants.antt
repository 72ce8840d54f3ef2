-- The bytes looked at stand in words.
use Rattle.m386_words.proofs.Tokens.{Below}
use Rattle.m386_words.proofs.token.word_len.Given as goal

abbrev pub invariant-loop-index : goal.invariant-loop-index
invariant-loop-index l = Below l.index l.line
