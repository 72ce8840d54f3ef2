use Rattle.std.proofs.Common.{◌≡◌, ◌+◌, Ok, Err, Some, sym, ◌∙◌, ap, subst}
use Rattle.std.proofs.lemmas.Result.{err_from_is_err_and}
use Rattle.m386_asm.specs.declared.stop.AsmStop.TheVariants.{Memory, Bad}
use Rattle.m386_asm.specs.Walks.{IsLeast}
use Rattle.m386_asm.proofs.Judging.{bad_told}
use Rattle.m386_asm.proofs.judge.go_over.Goals as goal

pub returns-in_err-kind-clause-bad : goal.returns-in_err-kind-clause-bad
returns-in_err-kind-clause-bad c = λ number kind e.
    let p = err_from_is_err_and c.from_residual.result c.from_residual.ensures.1 in
    let memory : c.from_residual.result ≡ Err Memory = p.1 ∙ ap Err p.2 in
    let none : Err Memory ≡ Err (Bad number kind) = sym memory ∙ e in
    absurd cc

pub returns-in-Some-clause-bad : goal.returns-in-Some-clause-bad
returns-in-Some-clause-bad c = λ number kind e.
    let told = bad_told (c.args.walk.now.lines + 1) number c.in-Some.kind kind (sym (ap Err c.bad.ensures) ∙ e) in
    (sym told.0, λ ls before l t. subst (IsLeast ls before l) (c.in-Some.is ∙ ap Some told.1) (c.in_ok-kind.ensures.least ls before l t))

pub returns-in-None-clause-good : goal.returns-in-None-clause-good
returns-in-None-clause-good c = λ ls before l t.
    (subst (IsLeast ls before l) c.in-None.is (c.in_ok-kind.ensures.least ls before l t), c.judge.ensures.behind (c.in_ok-kind.was ∙ ap Ok c.in-None.is) ls before l t)
