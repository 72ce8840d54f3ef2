use Rattle.std.proofs.Common.{refl}
use Rattle.m386_alu.specs.Width.{bits}
use Rattle.m386_alu.proofs.Carries.{difference_overflow, some_bits}
use Rattle.m386_alu.proofs.sums.difference_overflows.Goals as goal

pub returns-then-has_sign-negative : goal.returns-then-has_sign-negative
returns-then-has_sign-negative c =
    let n = bits c.args.width in
    let e = difference_overflow n c.args.a c.args.b c.args.borrow (some_bits c.args.width) c.requires.borrow c.requires.a_fits c.requires.b_fits in
    let t = c.if-has_sign-negative.true in
    let f = rw (← c.requires.difference, ← c.has_sign.ensures, ← c.has_sign-negative.ensures, t) at e in
    rw (← f, c.has_sign-then-has_sign-negative.ensures) refl

pub returns-else-has_sign-negative : goal.returns-else-has_sign-negative
returns-else-has_sign-negative c =
    let n = bits c.args.width in
    let e = difference_overflow n c.args.a c.args.b c.args.borrow (some_bits c.args.width) c.requires.borrow c.requires.a_fits c.requires.b_fits in
    let t = c.if-has_sign-negative.false in
    let f = rw (← c.requires.difference, ← c.has_sign.ensures, ← c.has_sign-negative.ensures, t) at e in
    rw (← f) t
