use Rattle.m386_asm.specs.Layout.{sections_of}
use Rattle.m386_asm.proofs.DraftSteps.{plan_short, sections_short}
use Rattle.m386_asm.proofs.drafted.Draft.image.Goals as goal

pub returns-clause-short : goal.returns-clause-short
returns-clause-short c = λ ns ls d.
    let sections = c.in_ok-sections.ensures (sections_of ls) d.sections in
    (rw d.plan (plan_short ns ls), rw sections (sections_short ls))
