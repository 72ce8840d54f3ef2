use Rattle.std.proofs.Common.{refl, sym, ◌∙◌}
use Rattle.m386_image.proofs.Sections.{takes_next, walked_more}
use Rattle.m386_image.proofs.section.walk_sections.Goals as goal
use Rattle.m386_image.proofs.section.walk_sections.Goals.{then-placed, else-placed}

pub returns-in_err-part-clause-none : goal.returns-in_err-part-clause-none
returns-in_err-part-clause-none c = λ _ ss rest t.
    let w = c.loop.invariant in
    let next = takes_next c.loop.counter c.args.count c.args.bytes.now w.sections ss c.loop.rest.now rest c.loop-test.true w.takes t in
    c.in_err-part.ensures.none refl next.0 next.1 next.2

pub loop-preserved : goal.loop-preserved
loop-preserved c =
    let p = c.in_ok-part.part in
    rw c.end-end.ensures (walked_more c.loop.counter c.args.bytes.now c.args.memory c.loop.rest.now c.loop.placed c.loop.end (record { addr = p.addr; bytes = p.bytes.now }) p.rest.now c.if-placed.placed c.loop.invariant c.in_ok-part.ensures.some
    (elim c.if-placed.branch [
      | then-placed w ↦ (λ h. let all = w.is_placed-placed.ensures.0 (sym w.placed-is ∙ h) in (w.if-placed.true, all.0, all.1), λ h. w.placed-is ∙ w.is_placed-placed.ensures.1 (h.1, h.2))
      | else-placed w ↦ (λ h. absurd cc, λ h. absurd cc)
    ]))
