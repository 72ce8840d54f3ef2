use Rattle.std.proofs.Common.{◌≡◌, drop}
use Rattle.m386_checks.specs.First.{first_false, for_segment}
use Rattle.m386_checks.proofs.first.first_of_rows.Given as goal

abbrev pub invariant-loop-row : goal.invariant-loop-row
invariant-loop-row l = first_false l.facts (for_segment l.seg l.rows) ≡ first_false l.facts (for_segment l.seg (drop l.row-index l.rows))
