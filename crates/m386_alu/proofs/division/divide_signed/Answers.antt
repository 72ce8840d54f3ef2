use Rattle.std.proofs.Common.{refl, not}
use Rattle.std.proofs.Math.Bool.{beq}
use Rattle.m386_alu.specs.Width.{bits}
use Rattle.m386_alu.proofs.Carries.{some_bits}
use Rattle.m386_alu.proofs.Magnitudes.{signed_is_small, quotient_by_signs}
use Rattle.m386_alu.proofs.division.divide_signed.Goals as goal

pub returns-then-not-fits_signed : goal.returns-then-not-fits_signed
returns-then-not-fits_signed c =
    let n = bits c.args.width in
    let e = quotient_by_signs n c.args.dividend c.args.by (some_bits c.args.width) c.requires.by c.requires.by_fits c.requires.dividend_fits in
    let d = c.divide_magnitudes-quotient.ensures in
    let f = rw (c.fits_signed.ensures, c.has_top_bit-negative.ensures, c.has_sign.ensures, c.bits_of-bits.ensures, d.quotient) at c.if-not-fits_signed.true in
    rw (e, f) refl

pub with_sign-quotient-requires-clause-fits : goal.with_sign-quotient-requires-clause-fits
with_sign-quotient-requires-clause-fits c =
    let n = bits c.args.width in
    let b = not (beq c.has_top_bit-negative.result c.has_sign.result) in
    let f = rw (c.fits_signed.ensures, c.bits_of-bits.ensures) at c.if-not-fits_signed.false in
    rw c.bits_of-bits.ensures (signed_is_small n c.divide_magnitudes-quotient.result.0 b (some_bits c.args.width) f)

pub returns : goal.returns
returns c =
    let n = bits c.args.width in
    let e = quotient_by_signs n c.args.dividend c.args.by (some_bits c.args.width) c.requires.by c.requires.by_fits c.requires.dividend_fits in
    let d = c.divide_magnitudes-quotient.ensures in
    let f = rw (c.fits_signed.ensures, c.has_top_bit-negative.ensures, c.has_sign.ensures, c.bits_of-bits.ensures, d.quotient) at c.if-not-fits_signed.false in
    rw (e, f, c.with_sign-quotient.ensures.exact, c.with_sign.ensures.exact, c.has_top_bit-negative.ensures, c.has_sign.ensures, c.bits_of-bits.ensures, d.quotient, d.rest) refl
