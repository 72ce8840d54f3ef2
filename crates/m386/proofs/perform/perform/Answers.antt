use Rattle.std.proofs.Common.{◌≡◌, ◌∙◌, ap, refl, Ok}
use Rattle.m386_calls.specs.Words.{as_run, in_no_thread, texts, without_threads, words_mean_plainly}
use Rattle.m386.proofs.Answers.{answered_as_run, memory_answers}
use Rattle.m386.proofs.perform.perform.Goals as goal

pub returns-in-Err-Memory : goal.returns-in-Err-Memory
returns-in-Err-Memory g c = memory_answers (words_mean_plainly (texts c.args.words.now)) _ _ refl refl

pub returns-in-Run : goal.returns-in-Run
returns-in-Run g c =
    let asked = c.in-Run.asked in
    let e : words_mean_plainly (texts c.args.words.now) ≡ as_run (in_no_thread asked asked.schedule) = ap without_threads (c.in-Ok.ensures.value ∙ ap Ok c.in-Run.is) in
    answered_as_run _ (in_no_thread asked asked.schedule) _ _ _ e c.perform_run.ensures
