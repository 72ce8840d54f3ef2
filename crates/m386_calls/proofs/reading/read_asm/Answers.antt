use Rattle.std.proofs.Common.{◌∙◌, ap, Err}
use Rattle.std.proofs.lemmas.Result.{err_from_is_err_and}
use Rattle.m386_calls.proofs.Lines.{asm_reads, asm_refused}
use Rattle.m386_calls.proofs.reading.read_asm.Goals as goal

pub returns-in_err-parse-clause-value : goal.returns-in_err-parse-clause-value
returns-in_err-parse-clause-value c =
    let from = err_from_is_err_and c.from_residual.result c.from_residual.ensures.1 in
    rw (from.1 ∙ ap Err from.2) (asm_refused _ _ c.in_err-parse.field-0.0 c.asm.ensures c.in_err-parse.ensures)

pub returns-clause-value : goal.returns-clause-value
returns-clause-value c = asm_reads _ _ c.asm.ensures c.in_ok-parse.ensures.0
