-- The arguments so far, and those of what is left, are those of the tokens.
use Rattle.std.proofs.Common.{◌≡◌, map}
use Rattle.m386_words.specs.declared.part.Separator.TheVariants.{Blank}
use Rattle.m386_words.specs.Seen.{rest_parts}
use Rattle.m386_words.specs.Text.{filled, spaced}
use Rattle.m386_words.specs.Tokens.{seen}
use Rattle.m386_lines.proofs.Listed.{behind_parts, left_length}
use Rattle.m386_lines.proofs.parts.arguments_of.Given as goal

abbrev pub invariant-loop-left : goal.invariant-loop-left
invariant-loop-left l = behind_parts l.arguments (filled (rest_parts Blank l.left)) ≡ spaced (map seen l.tokens)

abbrev pub decreases-loop-left : goal.decreases-loop-left
decreases-loop-left l = left_length l.left
