use Rattle.std.proofs.Common.{◌+◌, ◌*◌, ◌/◌, ◌-◌, ◌^◌, refl}
use Rattle.std.proofs.lemmas.Nat.{and_mask}
use Rattle.m386_alu.specs.Width.{bits}
use Rattle.m386_alu.proofs.Moves.{shr_after}
use Rattle.m386_alu.proofs.double_shifts.shift_right_into.Goals as goal

pub returns : goal.returns
returns c =
    let n = bits c.args.width in
    let k = c.args.count in
    let d = c.args.b * 2 ^ n + c.args.a in
    let s = shr_after (n + n) k d 0 c.requires.count.0 in
    rw (c.double-both.ensures, c.max_of.ensures, s, and_mask (d / 2 ^ k) n, and_mask (d / 2 ^ (k - 1)) 1) refl
