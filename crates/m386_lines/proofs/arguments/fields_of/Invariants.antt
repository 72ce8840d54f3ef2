-- What the parts so far are, and what those left are, is what all are.
use Rattle.std.proofs.Common.{◌≡◌, map}
use Rattle.m386_words.specs.Options.{all_some}
use Rattle.m386_lines.specs.Directives.{field}
use Rattle.m386_lines.specs.Seen.{field_seen, part_seen}
use Rattle.m386_lines.proofs.Each.{so_far}
use Rattle.m386_lines.proofs.arguments.fields_of.Given as goal

abbrev pub invariant-loop-part : goal.invariant-loop-part
invariant-loop-part l = so_far field_seen field l.fields l.part-index l.parts ≡ all_some (map field (map part_seen l.parts))
