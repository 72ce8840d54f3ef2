use Rattle.std.proofs.Common.{sym, arith, rules}
use Rattle.m386_edge.proofs.Edge.{grown-nil}
use Rattle.m386_edge.proofs.Whole.{grows_more}
use Rattle.m386_edge.proofs.writing.write_whole.Goals as goal

pub loop-done-init : goal.loop-done-init
loop-done-init g c = record { within = omega arith; grows = sym (grown-nil _); never_falls = omega arith }

pub loop-done-preserved : goal.loop-done-preserved
loop-done-preserved g c = record {
  within = search rules;
  grows = grows_more _ _ _ _ _ _ c.loop-done.invariant.grows c.in_ok-done.ensures.wrote;
  never_falls = search rules;
}
