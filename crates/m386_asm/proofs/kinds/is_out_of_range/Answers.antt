use Rattle.std.proofs.Common.{sym, ◌∙◌, inl, inr}
use Rattle.m386_asm.specs.Layout.{names_of, end_of, is_out_of_range, IsUnreached}
use Rattle.m386_lines.specs.Seen.{statement_seen}
use Rattle.m386_asm.proofs.Tested.{neither, unreached_here, unreached_there}
use Rattle.m386_asm.proofs.kinds.is_out_of_range.Goals as goal

pub returns-then-exceeds-clause-out : goal.returns-then-exceeds-clause-out
returns-then-exceeds-clause-out c = λ ls before l m at e f t. inl (sym (c.exceeds.ensures ls before l m at e f) ∙ t)

pub returns-else-exceeds-clause-out : goal.returns-else-exceeds-clause-out
returns-else-exceeds-clause-out c = λ ls before l m at e f t.
    inr (unreached_there ls before l c.args.survey.now c.args.spot m (statement_seen c.args.statement.now) at e (c.is_unreached.ensures.unreached (names_of ls) at.survey_is.knows t))

pub returns-else-exceeds-clause-within : goal.returns-else-exceeds-clause-within
returns-else-exceeds-clause-within c = λ ls before l m at e f t has.
    neither (is_out_of_range ls before l) (IsUnreached (names_of ls) (end_of before) l.meaning.statement) (sym (c.exceeds.ensures ls before l m at e f) ∙ c.if-exceeds.false)
    (λ u. c.is_unreached.ensures.reached (names_of ls) at.survey_is.knows t (unreached_here ls before l c.args.survey.now c.args.spot m (statement_seen c.args.statement.now) at e u)) has
