use Rattle.std.proofs.Common.{sym, ◌∙◌, ap, ◌%◌, ◌^◌}
use Rattle.std.proofs.lemmas.Result.{err_from_is_err_and}
use Rattle.std.specs.Prelude.{Err}
use Rattle.m386_asm.proofs.Finished.{no_memory, no_cpus, whole}
use Rattle.m386_asm.proofs.Answering.{memory_not, stopped}
use Rattle.m386_asm.proofs.assemble.finish.Goals as goal
use Rattle.m386_asm.proofs.assemble.finish.Goals.{then-is_none-via-then-is_none, then-is_none-via-else-is_none+then-is_none-2}

pub returns-then-is_none-clause-bad : goal.returns-then-is_none-clause-bad
returns-then-is_none-clause-bad c = λ number kind h ls s p w. elim c.then-is_none.branch [
  | then-is_none-via-then-is_none v ↦ no_memory ls c.args.survey.now c.args.walk number kind s p w v.if-is_none.ensures (sym c.bad.ensures ∙ stopped c.bad.result number kind h)
  | then-is_none-via-else-is_none+then-is_none-2 v ↦ no_cpus ls c.args.survey.now c.args.walk number kind s p w v.if-is_none-2.ensures (sym c.bad.ensures ∙ stopped c.bad.result number kind h)
]

pub returns-in_err-image-clause-bad : goal.returns-in_err-image-clause-bad
returns-in_err-image-clause-bad c = λ number kind h ls s p w.
    let from = err_from_is_err_and c.from_residual.result c.from_residual.ensures.1 in
    memory_not number kind c.from_residual.result (from.1 ∙ ap Err from.2) h

pub returns-in_err-text_of-clause-bad : goal.returns-in_err-text_of-clause-bad
returns-in_err-text_of-clause-bad c = λ number kind h ls s p w.
    let from = err_from_is_err_and c.from_residual-in_err-text_of.result c.from_residual-in_err-text_of.ensures.1 in
    memory_not number kind c.from_residual-in_err-text_of.result (from.1 ∙ ap Err from.2) h

pub returns-clause-good : goal.returns-clause-good
returns-clause-good c = λ ls s p w.
    let all = whole ls c.args.survey.now c.args.walk c.number_in.result (c.number_in-2.result % 2 ^ 8) c.in_ok-image.image s p w c.if-is_none.ensures c.if-is_none-2.ensures c.number_in.ensures (ap (λ n. n % 2 ^ 8) c.number_in-2.ensures)
    c.in_ok-image.ensures.exact in
    (all.0, c.in_ok-text_of.ensures ∙ all.1)
