use Rattle.std.proofs.Common.{sym, ◌∙◌, ap}
use Rattle.std.proofs.lemmas.Result.{err_from_is_err_and}
use Rattle.std.specs.Prelude.{Err}
use Rattle.m386_asm.proofs.Answering.{answer_once, from_ok, when_ok, memory_answers, memory_not, stop_answers, stopped}
use Rattle.m386_asm.proofs.Existing.{laid_somehow}
use Rattle.m386_asm.proofs.assemble.assemble.Goals as goal

pub returns-in_err-survey-clause-bad : goal.returns-in_err-survey-clause-bad
returns-in_err-survey-clause-bad c = λ line kind h.
    let from = err_from_is_err_and c.from_residual.result c.from_residual.ensures.1 in
    memory_not line kind c.from_residual.result (from.1 ∙ ap Err from.2) h

pub returns-in_err-survey-clause-only : goal.returns-in_err-survey-clause-only
returns-in_err-survey-clause-only c = λ layout p.
    let from = err_from_is_err_and c.from_residual.result c.from_residual.ensures.1 in
    memory_answers c.from_residual.result layout (from.1 ∙ ap Err from.2)

pub returns-in_err-walk-clause-bad : goal.returns-in_err-walk-clause-bad
returns-in_err-walk-clause-bad c = λ line kind h.
    let laid = laid_somehow c.args.text.now in
    let from = err_from_is_err_and c.from_residual-in_err-walk.result c.from_residual-in_err-walk.ensures.1 in
    (laid.0, laid.1, c.walk_over.ensures.bad line kind (c.in_err-walk.was ∙ ap Err (sym from.2 ∙ stopped from.0 line kind (sym from.1 ∙ h))) laid.0 laid.1 (c.in_ok-survey.ensures.survey laid.0 laid.1))

pub returns-in_err-walk-clause-only : goal.returns-in_err-walk-clause-only
returns-in_err-walk-clause-only c = λ layout p.
    let laid = laid_somehow c.args.text.now in
    let from = err_from_is_err_and c.from_residual-in_err-walk.result c.from_residual-in_err-walk.ensures.1 in
    stop_answers c.args.text.now c.from_residual-in_err-walk.result from.0 layout from.1
    (λ line kind e. (laid.0, laid.1, c.walk_over.ensures.bad line kind (c.in_err-walk.was ∙ ap Err (sym from.2 ∙ e)) laid.0 laid.1 (c.in_ok-survey.ensures.survey laid.0 laid.1))) p

pub returns-clause-ok : goal.returns-clause-ok
returns-clause-ok c =
    let laid = laid_somehow c.args.text.now in
    let survey = c.in_ok-survey.ensures.survey laid.0 laid.1 in
    let walked = c.in_ok-walk.ensures.good laid.0 laid.1 survey in
    when_ok c.finish.result (λ bytes h.
    let whole = from_ok _ c.finish.result bytes c.finish.ensures.good h laid.0 survey walked.0 walked.1 in
    (laid.0, laid.1, walked.0, whole.0, whole.1))

pub returns-clause-bad : goal.returns-clause-bad
returns-clause-bad c = λ line kind h.
    let laid = laid_somehow c.args.text.now in
    let survey = c.in_ok-survey.ensures.survey laid.0 laid.1 in
    let walked = c.in_ok-walk.ensures.good laid.0 laid.1 survey in
    (laid.0, laid.1, c.finish.ensures.bad line kind h laid.0 survey walked.0 walked.1)

pub returns-clause-only : goal.returns-clause-only
returns-clause-only c = λ layout p.
    let laid = laid_somehow c.args.text.now in
    let survey = c.in_ok-survey.ensures.survey laid.0 laid.1 in
    let walked = c.in_ok-walk.ensures.good laid.0 laid.1 survey in
    answer_once c.args.text.now c.finish.result layout
    (λ bytes h.
    let whole = from_ok _ c.finish.result bytes c.finish.ensures.good h laid.0 survey walked.0 walked.1 in
    (laid.0, laid.1, walked.0, whole.0, whole.1))
    (λ line kind h. (laid.0, laid.1, c.finish.ensures.bad line kind h laid.0 survey walked.0 walked.1)) p
