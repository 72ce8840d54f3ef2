use Rattle.std.proofs.Common.{arith, ◌%◌, ◌<◌, ◌∙◌, ◌≤◌}
use Rattle.std.proofs.lemmas.Nat.{mod_below}
use Rattle.m386_alu.specs.Turns.{turn_right_once}
use Rattle.m386_alu.proofs.Turning.{right_code, right_fits, right_round, times_rest}
use Rattle.m386_alu.proofs.rotates.turn_right.Goals as goal

pub returns-clause-exact : goal.returns-clause-exact
returns-clause-exact c =
    let n = c.args.bits in
    let k = c.args.count in
    let b : 8 ≤ n = c.requires.bits.0 in
    let below : k % n < n = mod_below k n (omega arith) in
    right_code n c.args.number (k % n) (omega arith) c.requires.bits.1 below c.requires.fits
    ∙ times_rest (turn_right_once n) n c.args.number k (right_round n c.args.number (omega arith) c.requires.fits)

pub returns-clause-fits : goal.returns-clause-fits
returns-clause-fits c =
    let n = c.args.bits in
    let k = c.args.count in
    let b : 8 ≤ n = c.requires.bits.0 in
    let below : k % n < n = mod_below k n (omega arith) in
    let e = right_code n c.args.number (k % n) (omega arith) c.requires.bits.1 below c.requires.fits in
    rw e (right_fits n (k % n) c.args.number (omega arith) c.requires.fits)
