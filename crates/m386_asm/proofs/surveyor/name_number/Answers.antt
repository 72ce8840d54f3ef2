use Rattle.std.proofs.Common.{rules, sym, ◌∙◌, ap, [], ◌∷◌}
use Rattle.std.specs.Option.{option_or}
use Rattle.m386_lines.specs.Seen.{statement_seen}
use Rattle.m386_asm.specs.Knows.{found}
use Rattle.m386_asm.specs.Layout.{assigned}
use Rattle.m386_asm.specs.Surveys.{found_first, seen_at}
use Rattle.m386_asm.proofs.Surveyed.{named_behind, none_behind, on_ok}
use Rattle.m386_asm.proofs.surveyor.name_number.Goals as goal

pub returns-in-Assign : goal.returns-in-Assign
returns-in-Assign c =
    on_ok c.define.result (λ f w.
    let old = seen_at (found c.args.names.now w) in
    let kept = named_behind (found c.args.names.now w) (found c.define.new.self w) c.in-Assign.word.now _ w (f w) in
    kept
    ∙ ap (λ v. option_or old (found_first ((c.in-Assign.word.now, v) ∷ []) c.args.line w)) (search rules)
    ∙ ap (λ s. option_or old (found_first (assigned (statement_seen s)) c.args.line w)) (sym c.in-Assign.is)) c.define.ensures

pub returns-in-Nothing : goal.returns-in-Nothing
returns-in-Nothing c = λ w.
    none_behind (found c.args.names.now w) c.args.line w ∙ ap (λ s. option_or (seen_at (found c.args.names.now w)) (found_first (assigned (statement_seen s)) c.args.line w)) (sym c.in-Nothing.is)

pub returns-in-Direct : goal.returns-in-Direct
returns-in-Direct c = λ w.
    none_behind (found c.args.names.now w) c.args.line w ∙ ap (λ s. option_or (seen_at (found c.args.names.now w)) (found_first (assigned (statement_seen s)) c.args.line w)) (sym c.in-Direct.is)

pub returns-in-Operate : goal.returns-in-Operate
returns-in-Operate c = λ w.
    none_behind (found c.args.names.now w) c.args.line w ∙ ap (λ s. option_or (seen_at (found c.args.names.now w)) (found_first (assigned (statement_seen s)) c.args.line w)) (sym c.in-Operate.is)
