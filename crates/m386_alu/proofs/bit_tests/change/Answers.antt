use Rattle.std.proofs.Common.{rules, refl, ◌<◌, ◌^◌}
use Rattle.m386_base.proofs.BitPlaces.{set_bit, clear_bit, mask_at}
use Rattle.m386_alu.proofs.Tested.{flip_bit}
use Rattle.m386_alu.proofs.bit_tests.change.Goals as goal

pub returns-in-Set : goal.returns-in-Set
returns-in-Set c = rw (mask_at c.args.bit c.requires, set_bit c.args.number c.args.bit, c.in-Set.is) refl

pub returns-in-Reset : goal.returns-in-Reset
returns-in-Reset c =
    let f : c.args.number < 2 ^ 32 = search rules in
    rw (mask_at c.args.bit c.requires, clear_bit c.args.number c.args.bit f c.requires, c.in-Reset.is) refl

pub returns-in-Complement : goal.returns-in-Complement
returns-in-Complement c = rw (mask_at c.args.bit c.requires, flip_bit c.args.number c.args.bit, c.in-Complement.is) refl
