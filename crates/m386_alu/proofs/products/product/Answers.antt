use Rattle.std.proofs.Common.{refl, ◌+◌, ◌*ℤ◌}
use Rattle.m386_alu.specs.Products.{product_of}
use Rattle.m386_alu.specs.Width.{bits, signed}
use Rattle.m386_alu.proofs.Magnitudes.{modulo_fits}
use Rattle.m386_alu.proofs.products.product.Goals as goal

pub returns-then-signed-clause-fits : goal.returns-then-signed-clause-fits
unfolding product_of
returns-then-signed-clause-fits c =
    let n = bits c.args.width in
    rw c.signed_product.ensures (modulo_fits (n + n) (signed n c.args.a *ℤ signed n c.args.b))

pub returns-else-signed-clause-exact : goal.returns-else-signed-clause-exact
unfolding product_of
returns-else-signed-clause-exact c = rw c.if-signed.false refl
