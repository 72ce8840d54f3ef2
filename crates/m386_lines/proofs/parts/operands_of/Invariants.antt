-- What the parts so far are, and what those left are, is what all are.
use Rattle.std.proofs.Common.{◌≡◌, map}
use Rattle.m386_words.specs.Operands.{operand}
use Rattle.m386_words.specs.Options.{all_some}
use Rattle.m386_words.specs.Seen.{written_seen}
use Rattle.m386_lines.specs.Seen.{part_seen}
use Rattle.m386_lines.proofs.Each.{so_far}
use Rattle.m386_lines.proofs.parts.operands_of.Given as goal

abbrev pub invariant-loop-part : goal.invariant-loop-part
invariant-loop-part l = so_far written_seen operand l.operands l.part-index l.parts ≡ all_some (map operand (map part_seen l.parts))
