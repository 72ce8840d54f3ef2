use Rattle.std.proofs.Common.{arith, refl, ◌≡◌, ◌+◌, ◌*◌}
use Rattle.m386_alu.specs.Products.{product_of}
use Rattle.m386_alu.specs.Signs.{magnitude_of}
use Rattle.m386_alu.specs.Width.{bits, is_negative}
use Rattle.m386_alu.proofs.Carries.{some_bits}
use Rattle.m386_alu.proofs.Magnitudes.{read_magnitude, mul_signs}
use Rattle.m386_alu.proofs.products.signed_product.Goals as goal

pub returns : goal.returns
unfolding product_of
returns c =
    let n = bits c.args.width in
    let a = c.args.a in
    let b = c.args.b in
    let p = some_bits c.args.width in
    let ra = read_magnitude n a p c.requires.a_fits in
    let rb = read_magnitude n b p c.requires.b_fits in
    let m = mul_signs (is_negative n a) (is_negative n b) (magnitude_of n a) (magnitude_of n b) in
    let two : 2 * n ≡ n + n = omega arith in
    rw (ra, rb, m, c.with_sign.ensures.exact, c.has_sign.ensures, c.has_sign-2.ensures, c.magnitude.ensures, c.magnitude-2.ensures, c.bits_of-bits.ensures, two) refl
