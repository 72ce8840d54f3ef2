use Rattle.std.proofs.Common.{◌≡◌, [], ◌∷◌, ◌++◌, length, refl, sym, ◌∙◌, subst}
use Rattle.m386_lines.specs.Seen.{meaning_seen}
use Rattle.m386_asm.specs.Layout.{names_of}
use Rattle.m386_asm.specs.Walks.{IsNoted}
use Rattle.m386_asm.proofs.Judging.{turn_length, turn_at, drafted_behind, walk_behind}
use Rattle.m386_asm.proofs.judge.take.Goals as goal

pub returns-in_ok-pass-clause-behind : goal.returns-in_ok-pass-clause-behind
returns-in_ok-pass-clause-behind c = λ none ls before l line means t.
    let walk = c.args.walk.now in
    let survey = c.args.survey.now in
    let meaning = meaning_seen c.args.meaning.now in
    let long : length l.bytes ≡ c.line_len.result = turn_length ls before l survey line walk meaning c.line_len.result means t c.line_len.ensures.length in
    let pass = c.in_ok-pass.ensures in
    walk_behind ls before l survey line walk c.pass.new.walk meaning c.line_len.result means t long pass.lines pass.place
    (subst (IsNoted ls (before ++ l ∷ [])) (sym pass.noted) (c.in_ok-kind.ensures.noted ls before l (turn_at ls before l survey line walk meaning _ means t refl refl long) t.walk_is.noted))
    pass.makes
    (λ makes. drafted_behind ls before l survey line walk meaning c.pass.new.walk.draft means t
    (pass.draft (sym pass.makes ∙ makes) (names_of ls) before t.survey_is.knows (t.walk_is.draft (sym pass.makes ∙ makes))))
