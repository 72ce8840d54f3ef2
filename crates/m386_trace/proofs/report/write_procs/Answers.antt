use Rattle.std.proofs.Common.{sym, ◌∙◌, ap, arith, rules}
use Rattle.m386_edge.proofs.Edge.{grown-nil}
use Rattle.m386_memory.specs.declared.ended.ProcEnd.{ProcEnd}
use Rattle.m386_state.specs.declared.proc.Proc.{Proc}
use Rattle.m386_trace.specs.Report.{proc_text, procs_text}
use Rattle.m386_trace.proofs.Writing.{procs_more, procs_front}
use Rattle.m386_trace.proofs.report.write_procs.Goals as goal

pub loop-cpu-init : goal.loop-cpu-init
unfolding procs_text
loop-cpu-init g c = record { grows = sym (grown-nil _); never_falls = omega arith }

pub returns-in_err-write_whole-clause-err : goal.returns-in_err-write_whole-clause-err
returns-in_err-write_whole-clause-err g c =
    let result = procs_front _ _ _ c.args.procs.now c.loop-cpu.cpu _ _ c.loop-cpu-test.true (c.as_bytes.ensures.value ∙ c.deref.ensures.0 ∙ c.proc_line.ensures.text ∙ ap (λ (e : ProcEnd Proc). proc_text c.loop-cpu.cpu e) c.index-procs-cpu.is) c.loop-cpu.invariant.grows c.in_err-write_whole.ensures.err in search rules

pub loop-cpu-preserved : goal.loop-cpu-preserved
loop-cpu-preserved g c = record {
  grows = procs_more _ _ _ c.args.procs.now c.loop-cpu.cpu _ _ c.loop-cpu-test.true (c.as_bytes.ensures.value ∙ c.deref.ensures.0 ∙ c.proc_line.ensures.text ∙ ap (λ (e : ProcEnd Proc). proc_text c.loop-cpu.cpu e) c.index-procs-cpu.is) c.loop-cpu.invariant.grows c.in_ok-write_whole.ensures.ok;
  never_falls = omega arith;
}
