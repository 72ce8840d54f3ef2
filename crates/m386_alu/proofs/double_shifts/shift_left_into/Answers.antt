use Rattle.std.proofs.Common.{arith, ◌+◌, ◌-◌, ◌*◌, ◌/◌, ◌%◌, ◌^◌, refl}
use Rattle.std.proofs.lemmas.Nat.{and_mask}
use Rattle.m386_alu.specs.Width.{bits}
use Rattle.m386_alu.proofs.Carries.{some_bits}
use Rattle.m386_alu.proofs.Doubling.{both_fit, upper_half, bit_above}
use Rattle.m386_alu.proofs.Moves.{shl_after}
use Rattle.m386_alu.proofs.double_shifts.shift_left_into.Goals as goal

pub returns : goal.returns
returns c =
    let n = bits c.args.width in
    let k = c.args.count in
    let d = c.args.a * 2 ^ n + c.args.b in
    let p = some_bits c.args.width in
    let fits = both_fit n c.args.a c.args.b c.requires.a_fits c.requires.b_fits in
    let few = c.requires.count.2 in
    let s = shl_after (n + n) k d 0 c.requires.count.0 (omega arith) fits in
    let v = upper_half c.args.width (d * 2 ^ k) in
    let b = bit_above n d k (omega arith) in
    rw (c.double-both.ensures, c.bits_of-bits.ensures, c.max_of.ensures, s, b, and_mask (d * 2 ^ k % 2 ^ 64 / 2 ^ n) n, and_mask (d / 2 ^ (2 * n - k)) 1, v) refl
