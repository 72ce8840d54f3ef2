use Rattle.std.proofs.Common.{rules, sym, ◌∙◌, ap, [], ◌∷◌}
use Rattle.std.specs.Option.{option_or}
use Rattle.m386_words.specs.Seen.{word_seen}
use Rattle.m386_asm.specs.Knows.{found}
use Rattle.m386_asm.specs.Layout.{labelled}
use Rattle.m386_asm.specs.Surveys.{found_first, seen_at}
use Rattle.m386_asm.proofs.Surveyed.{named_behind, none_behind, on_ok}
use Rattle.m386_asm.proofs.surveyor.name_place.Goals as goal

pub returns-in-Some : goal.returns-in-Some
returns-in-Some c = on_ok c.define.result (λ f w.
    let kept = named_behind (found c.args.names.now w) (found c.define.new.self w) c.in-Some.word.now _ w (f w) in
    kept
    ∙ ap (λ v. option_or (seen_at (found c.args.names.now w)) (found_first ((c.in-Some.word.now, v) ∷ []) c.args.line w)) (search rules)
    ∙ ap (λ o. option_or (seen_at (found c.args.names.now w)) (found_first (labelled c.args.place (word_seen o)) c.args.line w)) (sym c.in-Some.is)) c.define.ensures

pub returns-in-None : goal.returns-in-None
returns-in-None c = λ w.
    none_behind (found c.args.names.now w) c.args.line w ∙ ap (λ o. option_or (seen_at (found c.args.names.now w)) (found_first (labelled c.args.place (word_seen o)) c.args.line w)) (sym c.in-None.is)
