use Rattle.std.proofs.Common.{sym}
use Rattle.m386_alu.specs.Width.{bits}
use Rattle.m386_alu.proofs.Carries.{some_bits}
use Rattle.m386_alu.proofs.Rotating.{ror_after}
use Rattle.m386_alu.proofs.rotates.rotate_right.Goals as goal

pub returns : goal.returns
returns c = λ carry.
    let w = c.args.width in
    rw (c.turn_right-value.ensures.exact, c.bits_of-bits.ensures)
    (sym (ror_after (bits w) c.args.count c.args.number carry c.requires.count.0 (some_bits w) c.requires.fits))
