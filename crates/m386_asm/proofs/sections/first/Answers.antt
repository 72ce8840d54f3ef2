use Rattle.std.proofs.Common.{◌++◌, ap, ◌∙◌}
use Rattle.m386_asm.proofs.Growth.{none_left, some_left, with_first_bytes, with_no_bytes}
use Rattle.m386_asm.proofs.sections.first.Goals as goal

pub returns-then-is_empty : goal.returns-then-is_empty
returns-then-is_empty c = λ ns k.
    let g = c.in_ok-section.ensures ns k in
    let s = c.in_ok-section.section in (
      g.0,
      g.1,
      with_no_bytes g.0 s (g.2 ∙ ap (λ bs. record { addr = 0; bytes = bs ++ g.0 }) c.new.ensures)
          (none_left s.bytes c.as_slice.result.now c.is_empty.result c.as_slice.ensures c.is_empty.ensures c.if-is_empty.true),
    )

pub returns : goal.returns
returns c = λ ns k.
    let g = c.in_ok-section.ensures ns k in
    let s = c.in_ok-section.section in (
      g.0,
      g.1,
      with_first_bytes g.0 s (g.2 ∙ ap (λ bs. record { addr = 0; bytes = bs ++ g.0 }) c.new.ensures)
          (some_left s.bytes c.as_slice.result.now c.is_empty.result c.as_slice.ensures c.is_empty.ensures c.if-is_empty.false),
    )
