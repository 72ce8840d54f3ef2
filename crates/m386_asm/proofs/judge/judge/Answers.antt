use Rattle.std.proofs.Common.{sym, ◌∙◌, ap}
use Rattle.m386_lines.specs.Seen.{meaning_seen, judged_seen}
use Rattle.m386_asm.proofs.Judging.{told_least, told_meaning, told_by_meaning}
use Rattle.m386_asm.proofs.judge.judge.Goals as goal

pub returns-in-Ok-clause-least : goal.returns-in-Ok-clause-least
returns-in-Ok-clause-least c =
    let told = told_meaning c.args.line.now (meaning_seen c.in-Ok.meaning) (ap judged_seen (sym c.in-Ok.is) ∙ c.in_ok-meaning.ensures) in
    told_by_meaning c.args.survey.now c.args.line.now c.args.walk.now (meaning_seen c.in-Ok.meaning) c.take.result told.1 told.0 c.take.ensures.least

pub returns-in-Ok-clause-behind : goal.returns-in-Ok-clause-behind
returns-in-Ok-clause-behind c = λ none ls before l t.
    let told = told_meaning c.args.line.now (meaning_seen c.in-Ok.meaning) (ap judged_seen (sym c.in-Ok.is) ∙ c.in_ok-meaning.ensures) in
    c.take.ensures.behind none ls before l c.args.line.now told.1 t

pub returns-in-Err-clause-least : goal.returns-in-Err-clause-least
returns-in-Err-clause-least c = λ ls before l t.
    told_least ls before l c.args.survey.now c.args.line.now c.args.walk.now c.in-Err.kind (ap judged_seen (sym c.in-Err.is) ∙ c.in_ok-meaning.ensures) t
