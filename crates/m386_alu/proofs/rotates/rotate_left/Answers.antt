use Rattle.std.proofs.Common.{sym}
use Rattle.std.proofs.lemmas.Nat.{and_mask}
use Rattle.m386_alu.specs.Width.{bits}
use Rattle.m386_alu.proofs.Carries.{some_bits}
use Rattle.m386_alu.proofs.Rotating.{rol_after}
use Rattle.m386_alu.proofs.rotates.rotate_left.Goals as goal

pub returns : goal.returns
returns c = λ carry.
    let w = c.args.width in
    rw (and_mask c.turn_left-value.result 1, c.turn_left-value.ensures.exact, c.bits_of.ensures)
    (sym (rol_after (bits w) c.args.count c.args.number carry c.requires.count.0 (some_bits w) c.requires.fits))
