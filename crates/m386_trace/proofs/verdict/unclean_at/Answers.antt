use Rattle.std.proofs.Common.{codes, decimal, [], ◌∷◌}
use Rattle.m386_trace.proofs.Lines.{pushed, HasFields}
use Rattle.m386_trace.proofs.verdict.unclean_at.Goals as goal

pub returns-clause-bytes : goal.returns-clause-bytes
returns-clause-bytes c =
    let rule : HasFields (codes "unclean") (codes "rule" ∷ decimal c.args.rule ∷ []) c.unclean-line.result.bytes = record { text = c.unclean-line.ensures.bytes } in
    let name = pushed _ _ rule c.push_word.ensures.bytes in
    let index = pushed _ _ name c.push_decimal.ensures.bytes in
    index.text
