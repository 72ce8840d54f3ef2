use Rattle.std.proofs.Common.{sym, ◌∙◌, arith, rules}
use Rattle.m386_edge.proofs.Edge.{grown-nil}
use Rattle.m386_trace.proofs.Writing.{cycles_more, cycles_front}
use Rattle.m386_trace.proofs.report.write_cycles.Goals as goal

pub loop-cycle-init : goal.loop-cycle-init
loop-cycle-init g c = record { grows = sym (grown-nil _); never_falls = omega arith }

pub returns-in_err-write_whole-clause-err : goal.returns-in_err-write_whole-clause-err
returns-in_err-write_whole-clause-err g c =
    let result = cycles_front _ _ _ c.args.cycles.now c.loop-cycle.cycle-index _ _ c.loop-cycle-test.true (c.as_bytes.ensures.value ∙ c.deref.ensures.0 ∙ c.cycle_line.ensures.text) c.loop-cycle.invariant.grows c.in_err-write_whole.ensures.err in search rules

pub loop-cycle-preserved : goal.loop-cycle-preserved
loop-cycle-preserved g c = record {
  grows = cycles_more _ _ _ c.args.cycles.now c.loop-cycle.cycle-index _ _ c.loop-cycle-test.true (c.as_bytes.ensures.value ∙ c.deref.ensures.0 ∙ c.cycle_line.ensures.text) c.loop-cycle.invariant.grows c.in_ok-write_whole.ensures.ok;
  never_falls = omega arith;
}
