use Rattle.std.proofs.Common.{◌≡◌, take, length}
use Rattle.m386.proofs.same.are_same.Given as goal

abbrev pub invariant-loop-at : goal.invariant-loop-at
invariant-loop-at g l = record {
  same : take l.at l.one ≡ take l.at l.other;
  count : length l.one ≡ length l.other;
}
