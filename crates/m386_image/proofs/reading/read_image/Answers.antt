use Rattle.std.proofs.Common.{ap, inl, Ok}
use Rattle.std.proofs.lemmas.Result.{err_from_is_err_and}
use Rattle.m386_image.proofs.Judging.{image_same, image_no_fault}
use Rattle.m386_image.proofs.reading.read_image.Goals as goal

pub returns-in_err-check_image-clause-only : goal.returns-in_err-check_image-clause-only
returns-in_err-check_image-clause-only c image p = absurd (image_no_fault c.args.bytes.now image p c.in_err-check_image.field-0.0 c.in_err-check_image.ensures.stands)

pub returns-in_err-image_in-clause-bad : goal.returns-in_err-image_in-clause-bad
returns-in_err-image_in-clause-bad c f =
    let image = c.in_ok-check_image.ensures in
    let p = err_from_is_err_and c.from_residual-in_err-image_in.result c.from_residual-in_err-image_in.ensures.1 in
    rw (p.1, p.2) (λ e. absurd cc, λ h. absurd (image_no_fault c.args.bytes.now image.0 image.1 f h.stands))

pub returns-clause-only : goal.returns-clause-only
returns-clause-only c image p = inl (ap Ok (image_same c.args.bytes.now c.in_ok-image_in.field-0 image c.in_ok-image_in.ensures p))

pub returns-clause-bad : goal.returns-clause-bad
returns-clause-bad c f = (λ e. absurd cc, λ h. absurd (image_no_fault c.args.bytes.now c.in_ok-image_in.field-0 c.in_ok-image_in.ensures f h.stands))
