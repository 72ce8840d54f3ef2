use Rattle.std.proofs.Common.{sym, ◌/◌, ◌-◌, ◌^◌}
use Rattle.std.proofs.lemmas.Nat.{and_mask}
use Rattle.m386_alu.specs.Width.{bits}
use Rattle.m386_alu.proofs.Moves.{shr_after}
use Rattle.m386_alu.proofs.shifts.shift_right.Goals as goal

pub returns : goal.returns
returns c = λ carry.
    rw (and_mask (c.args.number / 2 ^ (c.args.count - 1)) 1) (sym (shr_after (bits c.args.width) c.args.count c.args.number carry c.requires.count.0))
