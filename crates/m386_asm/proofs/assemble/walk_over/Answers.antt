use Rattle.std.proofs.Common.{sym, ◌∙◌, ap, length, arith}
use Rattle.std.proofs.lemmas.Result.{err_from_is_err_and}
use Rattle.std.specs.Prelude.{Err}
use Rattle.m386_asm.proofs.Answering.{stopped}
use Rattle.m386_asm.proofs.Walked.{stands_first, stands_next, stands_last, faulty_next, lines_none}
use Rattle.m386_asm.proofs.assemble.walk_over.Goals as goal

pub loop-split-init : goal.loop-split-init
loop-split-init c = (omega (arith, c.begin-walk.ensures.none), omega (arith, c.begin-walk.ensures.none, c.begin-walk.ensures.start), λ ls p s. stands_first c.args.text.now ls c.begin-walk.result p (c.begin-walk.ensures.walk ls s))

pub returns-in_err-go_over-clause-bad : goal.returns-in_err-go_over-clause-bad
returns-in_err-go_over-clause-bad c = λ number kind h ls p s.
    let from = err_from_is_err_and c.from_residual.result c.from_residual.ensures.1 in
    let stop = stopped from.0 number kind (sym from.1 ∙ h) in
    let went = c.go_over.ensures.bad number kind (c.in_err-go_over.was ∙ ap Err (sym from.2 ∙ stop)) in
    faulty_next ls c.args.survey.now c.loop-split.rest.now c.in-Some.split.line.now c.in-Some.split.rest.now c.loop-split.walk number kind c.in-Some.ensures.some s (c.loop-split.invariant.2 ls p s) went.0 went.1

pub loop-split-preserved : goal.loop-split-preserved
loop-split-preserved c = (
  omega (arith, c.loop-split.invariant.0, ap length c.in-Some.ensures.some, c.in_ok-go_over.ensures.lines),
  c.in_ok-go_over.ensures.near,
  λ ls p s. stands_next ls c.args.survey.now c.loop-split.rest.now c.in-Some.split.line.now c.in-Some.split.rest.now c.loop-split.walk c.go_over.new.walk c.in-Some.ensures.some s (c.loop-split.invariant.2 ls p s) c.in_ok-go_over.ensures.good,
)

pub returns-clause-lines : goal.returns-clause-lines
returns-clause-lines c = omega (arith, c.loop-split.invariant.0, ap length (lines_none c.loop-split.rest.now c.in_default.ensures.none))

pub returns-clause-good : goal.returns-clause-good
returns-clause-good c = λ ls p s. stands_last ls c.loop-split.rest.now c.loop-split.walk (lines_none c.loop-split.rest.now c.in_default.ensures.none) (c.loop-split.invariant.2 ls p s)
