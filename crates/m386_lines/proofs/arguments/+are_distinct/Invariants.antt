-- The list that is left grows shorter.
use Rattle.std.proofs.Common.{length}
use Rattle.m386_lines.proofs.arguments.+are_distinct.Given as goal

abbrev pub decreases-are_distinct : goal.decreases-are_distinct
decreases-are_distinct l = length l.fields.now
