use Rattle.m386_alu.specs.Width.{bits}
use Rattle.m386_alu.proofs.Keeping.{halves_keep}
use Rattle.m386_alu.proofs.products.mul.Goals as goal

pub returns-clause-others : goal.returns-clause-others
returns-clause-others c = rw c.halve.ensures (halves_keep c.args.signed (bits c.args.width) c.product.result c.args.flags)
