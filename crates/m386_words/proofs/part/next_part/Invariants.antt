-- No token looked at is a separator.
use Rattle.std.proofs.Common.{◌≡◌, map}
use Rattle.m386_words.specs.Text.{parts_by}
use Rattle.m386_words.specs.Tokens.{seen}
use Rattle.m386_words.specs.Seen.{separates}
use Rattle.m386_words.proofs.Parts.{split_at}
use Rattle.m386_words.proofs.part.next_part.Given as goal

abbrev pub invariant-loop-index : goal.invariant-loop-index
invariant-loop-index l = split_at (separates l.separator) l.index l.tokens ≡ parts_by (separates l.separator) (map seen l.tokens)
