use Rattle.std.proofs.Common.{arith, rules, sym, ◌≡◌, ◌<◌, ◌*◌, ◌/◌, ◌%◌, ◌^◌}
use Rattle.std.proofs.lemmas.Nat.{and_mask, shl_whole}
use Rattle.m386_alu.specs.Width.{bits}
use Rattle.m386_alu.proofs.Carries.{some_bits}
use Rattle.m386_alu.proofs.Moves.{shl_after}
use Rattle.m386_alu.proofs.shifts.shift_left.Goals as goal

pub returns : goal.returns
returns c = λ carry.
    let a = c.args.number in
    let k = c.args.count in
    let n = bits c.args.width in
    let small : a < 2 ^ 32 = search rules in
    let whole : a * 2 ^ k % 2 ^ 64 ≡ a * 2 ^ k = shl_whole a 32 k 64 small (omega arith) in
    rw (whole, c.max_of.ensures, c.bits_of.ensures, and_mask (a * 2 ^ k) n, and_mask (a * 2 ^ k / 2 ^ n) 1)
    (sym (shl_after n k a carry c.requires.count.0 (some_bits c.args.width) c.requires.fits))
