use Rattle.std.proofs.Common.{ap, length, arith, refl}
use Rattle.m386_asm.specs.Layout.{names_of}
use Rattle.m386_asm.specs.Surveys.{IsSurveying}
use Rattle.m386_asm.proofs.Standing.{stands_at, stands_behind, stands_first, stands_last}
use Rattle.m386_asm.proofs.Surveyed.{surveying_none}
use Rattle.m386_asm.proofs.Walked.{lines_none}
use Rattle.m386_asm.proofs.surveyor.walk_over.Goals as goal

pub loop-split-init : goal.loop-split-init
loop-split-init c = (omega arith, omega arith, omega arith, λ ls p. stands_first _ c.args.text.now ls p (surveying_none _ refl refl c.new.ensures refl refl))

pub loop-split-preserved : goal.loop-split-preserved
loop-split-preserved c = (
  omega (arith, c.loop-split.invariant.0, ap length c.in-Some.ensures.some, c.in_ok-go_over.ensures.lines),
  c.in_ok-go_over.ensures.few,
  c.in_ok-go_over.ensures.near,
  λ ls p.
      let n = stands_at (λ before. IsSurveying before c.loop-split.walk) ls c.loop-split.rest.now c.in-Some.split.line.now c.in-Some.split.rest.now c.in-Some.ensures.some (c.loop-split.invariant.3 ls p) in
      stands_behind (λ before. IsSurveying before c.loop-split.walk) (λ before. IsSurveying before c.go_over.new.walk) ls c.in-Some.split.line.now c.in-Some.split.rest.now n
      (c.in_ok-go_over.ensures.behind (names_of ls) n.before n.l n.text n.laid_here n.holds),
)

pub returns-clause-few : goal.returns-clause-few
returns-clause-few c = omega (arith, c.loop-split.invariant.0, c.loop-split.invariant.1, ap length (lines_none c.loop-split.rest.now c.in_default.ensures.none))

pub returns-clause-walk : goal.returns-clause-walk
returns-clause-walk c = λ ls p.
    stands_last (λ before. IsSurveying before c.loop-split.walk) ls c.loop-split.rest.now (lines_none c.loop-split.rest.now c.in_default.ensures.none) (c.loop-split.invariant.3 ls p)
