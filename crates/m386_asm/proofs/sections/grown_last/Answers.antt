use Rattle.std.proofs.Common.{ap, sym, ◌∙◌}
use Rattle.m386_asm.specs.Drafts.{growing}
use Rattle.m386_asm.specs.Layout.{with_bytes}
use Rattle.m386_asm.proofs.Growth.{with_bytes_alone}
use Rattle.m386_asm.proofs.sections.grown_last.Goals as goal

pub returns-in_ok-grown-in-Some : goal.returns-in_ok-grown-in-Some
returns-in_ok-grown-in-Some c = λ ns k.
    let g = c.in_ok-grown-in-Some.ensures ns k in
    (g.0, g.1, with_bytes_alone g.0 c.in-Some.section c.in_ok-grown-in-Some.field-0 g.2 ∙ ap (λ o. with_bytes g.0 (growing o)) (sym c.in-Some.is))
