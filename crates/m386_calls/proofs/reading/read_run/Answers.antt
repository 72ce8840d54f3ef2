use Rattle.std.proofs.Common.{◌≡◌, ◌∙◌, ap, refl, subst, sym, Err}
use Rattle.std.proofs.lemmas.Result.{err_from_is_err_and}
use Rattle.m386_calls.proofs.Lines.{run_reads, run_refused}
use Rattle.m386_calls.specs.Words.{IsReading, asked_of, run_means, texts}
use Rattle.m386_calls.proofs.reading.read_run.Goals as goal

pub returns-in_err-matches-clause-value : goal.returns-in_err-matches-clause-value
returns-in_err-matches-clause-value c =
    let from = err_from_is_err_and c.from_residual.result c.from_residual.ensures.1 in
    rw (from.1 ∙ ap Err from.2) (run_refused _ _ c.in_err-matches.field-0.0 c.in-Ok.ensures c.in_err-matches.ensures)

pub returns-clause-value : goal.returns-clause-value
returns-clause-value c =
    let is = run_reads _ _ c.in_ok-matches.matches c.get_str.result c.get_str-2.result c.get_str-3.result c.get_str-4.result c.in-Ok.ensures c.in_ok-matches.ensures.0 c.in_ok-matches.ensures.1 c.get_str.ensures c.get_str-2.ensures c.get_str-3.ensures c.get_str-4.ensures in
    let asked : run_means (texts c.args.words.now) ≡ asked_of c.read_cpus.result c.read_steps.result c.read_schedule.result = is ∙ rw (c.read_cpus.ensures.value, c.read_steps.ensures.value, c.read_schedule.ensures, c.read_seed.ensures) refl in
    subst (λ meant. IsReading meant c.all_asked.result) (sym asked) c.all_asked.ensures.value
