use Rattle.std.proofs.Common.{◌+◌, ◌-◌, ◌<◌, ◌^◌, arith}
use Rattle.m386_desc.proofs.Ends.{offset_below}
use Rattle.m386_desc.proofs.offsets.allows_each.Goals as goal

-- src/offsets.rt:29:9
pub returns-in_default : goal.returns-in_default
returns-in_default c = (
  λ h. cc,
  λ all.
      let last : c.args.offset + (c.args.len - 1) < 2 ^ 32 = offset_below c.args.d.now _ (all (c.args.len - 1) (omega arith)) in
      absurd (c.in_default.ensures last),
)
