-- Each row of these jumps has a distance of a byte.
use Rattle.m386_encode.proofs.Fuller.{near_stays}
use Rattle.m386_encode.proofs.wide.near_jumps_stay_near.Goals as goal

pub returns : goal.returns
returns c r = near_stays r
