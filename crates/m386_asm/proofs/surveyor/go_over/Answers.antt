use Rattle.std.proofs.Common.{refl, sym, ◌∙◌, ap}
use Rattle.m386_lines.specs.Faults.{meaning_of}
use Rattle.m386_lines.specs.Seen.{judged_seen, meaning_seen}
use Rattle.m386_asm.proofs.Judging.{told_meaning, told_silent}
use Rattle.m386_asm.proofs.Surveyed.{on_ok, walk_passed}
use Rattle.m386_asm.proofs.surveyor.go_over.Goals as goal

pub returns-in-Ok-clause-behind : goal.returns-in-Ok-clause-behind
returns-in-Ok-clause-behind c =
    let means = told_meaning c.args.line.now (meaning_seen c.in-Ok.meaning) (ap judged_seen (sym c.in-Ok.is) ∙ c.in_ok-meaning.ensures) in
    on_ok c.take.result (λ f ns before l text laid at. f ns before l (means.1 ∙ ap meaning_of (sym text) ∙ sym laid.meaning) laid at) c.take.ensures.behind

pub returns-in-Err-clause-behind : goal.returns-in-Err-clause-behind
returns-in-Err-clause-behind c = λ ns before l text laid at.
    walk_passed before l c.args.walk.now _ (laid.meaning ∙ ap meaning_of text ∙ told_silent c.args.line.now c.in-Err.field-0 (ap judged_seen (sym c.in-Err.is) ∙ c.in_ok-meaning.ensures)) at refl refl refl refl refl
