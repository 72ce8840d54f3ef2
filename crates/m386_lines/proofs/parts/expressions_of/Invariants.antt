-- What the parts so far are, and what those left are, is what all are.
use Rattle.std.proofs.Common.{◌≡◌, map}
use Rattle.m386_words.specs.Expressions.{expression}
use Rattle.m386_words.specs.Options.{all_some}
use Rattle.m386_words.specs.Seen.{expression_seen}
use Rattle.m386_lines.specs.Seen.{part_seen}
use Rattle.m386_lines.proofs.Each.{so_far}
use Rattle.m386_lines.proofs.parts.expressions_of.Given as goal

abbrev pub invariant-loop-part : goal.invariant-loop-part
invariant-loop-part l = so_far expression_seen expression l.expressions l.part-index l.parts ≡ all_some (map expression (map part_seen l.parts))
