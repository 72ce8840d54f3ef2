use Rattle.std.proofs.Common.{sym, ◌∙◌, refl}
use Rattle.m386_alu.specs.Width.{bits}
use Rattle.m386_alu.proofs.Carries.{some_bits}
use Rattle.m386_alu.proofs.Moves.{pair_from}
use Rattle.m386_alu.proofs.Rotating.{rcl_after}
use Rattle.m386_alu.proofs.rotates.rotate_left_with_carry.Goals as goal

pub returns : goal.returns
returns c =
    let w = c.args.width in
    let e = rcl_after (bits w) c.args.count c.args.number c.args.carry (some_bits w) c.requires.fits c.requires.carry in
    pair_from c.part.result _ _
    (rw (c.part.ensures.value, c.turn_left.ensures.exact, c.bits_of.ensures, c.join.ensures.exact) refl)
    (rw (c.part.ensures.carry, c.turn_left.ensures.exact, c.bits_of.ensures, c.join.ensures.exact) refl)
    ∙ sym e
