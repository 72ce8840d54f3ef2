use Rattle.std.proofs.Common.{◌∙◌, ap, sym, Err}
use Rattle.std.proofs.lemmas.Result.{err_from_is_err_and}
use Rattle.m386_calls.proofs.Lines.{seed_reading, soak_reads, soak_refused}
use Rattle.m386_calls.specs.Words.{seed_or_value}
use Rattle.m386_calls.proofs.reading.read_soak.Goals as goal

pub returns-in_err-matches : goal.returns-in_err-matches
returns-in_err-matches c =
    let from = err_from_is_err_and c.from_residual.result c.from_residual.ensures.1 in
    rw (from.1 ∙ ap Err from.2) (soak_refused _ _ c.in_err-matches.field-0.0 c.in-Ok.ensures c.in_err-matches.ensures)

pub returns : goal.returns
returns c =
    let is = soak_reads _ _ c.in_ok-matches.matches c.get_str.result c.in-Ok.ensures c.in_ok-matches.ensures.0 c.in_ok-matches.ensures.1 c.get_str.ensures in
    rw c.ok_or.ensures.value (seed_reading _ c.read_seed.result (is ∙ ap seed_or_value (sym c.read_seed.ensures)))
