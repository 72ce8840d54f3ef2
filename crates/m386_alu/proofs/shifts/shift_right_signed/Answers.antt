use Rattle.std.proofs.Common.{sym, ◌∙◌, ◌<◌, ◌≤◌, ◌/◌, ◌-◌, ◌^◌}
use Rattle.std.proofs.lemmas.Nat.{and_mask}
use Rattle.m386_alu.specs.Width.{bits}
use Rattle.m386_alu.proofs.Carries.{some_bits}
use Rattle.m386_alu.proofs.Moves.{sar_high, sar_low}
use Rattle.m386_alu.proofs.Readings.{when_set, when_clear}
use Rattle.m386_alu.proofs.shifts.shift_right_signed.Goals as goal

pub returns-then-has_sign : goal.returns-then-has_sign
returns-then-has_sign c = λ carry.
    let a = c.args.number in
    let n = bits c.args.width in
    let high : 2 ^ (n - 1) ≤ a = when_set n a (sym c.has_sign.ensures ∙ c.if-has_sign.true) in
    rw (c.max_of-max.ensures, and_mask ((2 ^ n - 1 - a) / 2 ^ (c.args.count - 1)) 1)
    (sym (sar_high n c.args.count a carry c.requires.count.0 (some_bits c.args.width) high c.requires.fits))

pub returns-else-has_sign : goal.returns-else-has_sign
returns-else-has_sign c = λ carry.
    let a = c.args.number in
    let n = bits c.args.width in
    let low : a < 2 ^ (n - 1) = when_clear n a (sym c.has_sign.ensures ∙ c.if-has_sign.false) in
    c.shift_right.ensures carry ∙ sym (sar_low n c.args.count a carry low)
