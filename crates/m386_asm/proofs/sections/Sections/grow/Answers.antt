use Rattle.std.proofs.Common.{ap, ◌∙◌}
use Rattle.m386_asm.specs.Drafts.{growing}
use Rattle.m386_asm.specs.Layout.{with_bytes}
use Rattle.m386_asm.proofs.Growth.{sections_grown}
use Rattle.m386_asm.proofs.sections.Sections.grow.Goals as goal

pub returns : goal.returns
returns c = λ ns ss k h.
    let g = c.in_ok-self.ensures ns k in
    (g.0, g.1, sections_grown c.args.self.now.ended c.args.self.now.last c.in_ok-self.field-0 g.0 ss (g.2 ∙ ap (λ o. with_bytes g.0 (growing o)) c.take-last.ensures.value) h)
