use Rattle.std.proofs.Common.{◌≡◌, drop}
use Rattle.m386_checks.specs.First.{first_false, for_segments, data_segments}
use Rattle.m386_checks.proofs.first.first_of_data.Given as goal

abbrev pub invariant-loop-seg : goal.invariant-loop-seg
invariant-loop-seg l = first_false l.facts (for_segments data_segments l.rows) ≡ first_false l.facts (for_segments (drop l.seg-index data_segments) l.rows)
