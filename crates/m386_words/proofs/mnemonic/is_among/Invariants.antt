-- The rows looked at haven't the word.
use Rattle.std.proofs.Common.{◌≡◌, drop}
use Rattle.std.specs.List.{list_any}
use Rattle.m386_words.specs.Mnemonics.{has_word}
use Rattle.m386_words.proofs.mnemonic.is_among.Given as goal

abbrev pub invariant-loop-index : goal.invariant-loop-index
invariant-loop-index l = list_any (has_word l.word) (drop l.index l.rows) ≡ list_any (has_word l.word) l.rows
