use Rattle.std.proofs.Common.{◌≡◌, ◌≢◌, ◌∙◌, [], length, arith, true, refl, sym}
use Rattle.std.specs.Prelude.{◌==◌}
use Rattle.std.proofs.lemmas.List.{nil_from_length}
use Rattle.m386_image.proofs.Judging.{has_sections, unordered, displaced, trailing, is_image, image_with}
use Rattle.m386_image.proofs.reading.check_body.Goals as goal

pub returns-then-not-is_plan_ordered : goal.returns-then-not-is_plan_ordered
returns-then-not-is_plan_ordered c =
    let w = c.in-Some.ensures.some in
    let h = has_sections c.args.bytes.now c.plan_end_of-at.result c.read_u32.result w.0 c.in-Some.walk.rest.now c.plan_end_of-at.ensures c.read_u32.ensures c.if-bytes-at.false w.1 in
    unordered c.args.bytes.now w.0 c.in-Some.walk.rest.now c.requires (sym c.is_plan_ordered.ensures ∙ c.if-not-is_plan_ordered.true) h

pub returns-then-not-walk : goal.returns-then-not-walk
returns-then-not-walk c =
    let w = c.in-Some.ensures.some in
    let h = has_sections c.args.bytes.now c.plan_end_of-at.result c.read_u32.result w.0 c.in-Some.walk.rest.now c.plan_end_of-at.ensures c.read_u32.ensures c.if-bytes-at.false w.1 in
    displaced c.args.bytes.now w.0 c.in-Some.walk.rest.now c.requires (sym c.is_plan_ordered.ensures ∙ c.if-not-is_plan_ordered.false) h (λ p. let t = w.2.1 (rw (← c.read_u32-2.ensures) at p) in absurd cc)

pub returns-then-not-is_empty : goal.returns-then-not-is_empty
returns-then-not-is_empty c =
    let w = c.in-Some.ensures.some in
    let h = has_sections c.args.bytes.now c.plan_end_of-at.result c.read_u32.result w.0 c.in-Some.walk.rest.now c.plan_end_of-at.ensures c.read_u32.ensures c.if-bytes-at.false w.1 in
    let more : c.in-Some.walk.rest.now ≢ [] = λ e. let z : (length c.in-Some.walk.rest.now == 0) ≡ true = rw e refl in absurd cc in
    trailing c.args.bytes.now w.0 c.in-Some.walk.rest.now c.requires (sym c.is_plan_ordered.ensures ∙ c.if-not-is_plan_ordered.false) h (rw c.read_u32-2.ensures at (w.2.0 c.if-not-walk.false)) more

pub returns : goal.returns
returns c =
    let w = c.in-Some.ensures.some in
    let h = has_sections c.args.bytes.now c.plan_end_of-at.result c.read_u32.result w.0 c.in-Some.walk.rest.now c.plan_end_of-at.ensures c.read_u32.ensures c.if-bytes-at.false w.1 in
    let empty : c.in-Some.walk.rest.now ≡ [] = nil_from_length c.in-Some.walk.rest.now (grind arith) in
    (image_with c.args.bytes.now w.0, is_image c.args.bytes.now w.0 (λ i. omega (arith, c.type_inv.bytes i)) c.requires (sym c.is_plan_ordered.ensures ∙ c.if-not-is_plan_ordered.false) (rw empty at h) (rw c.read_u32-2.ensures at (w.2.0 c.if-not-walk.false)))
