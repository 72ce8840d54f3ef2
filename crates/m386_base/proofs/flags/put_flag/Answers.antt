use Rattle.std.proofs.Common.{arith, rules, ◌<◌, ◌^◌}
use Rattle.m386_base.specs.Flags.{place, with_flag}
use Rattle.m386_base.proofs.BitPlaces.{set_bit, clear_bit, mask_at}
use Rattle.m386_base.proofs.flags.put_flag.Goals as goal

pub returns-then-value : goal.returns-then-value
unfolding with_flag
returns-then-value c =
    let e = mask_at c.place_of-mask.result c.place_of-mask.ensures.inside in
    let s = set_bit c.args.flags.0 (place c.args.flag) in
    let p = c.place_of-mask.ensures.exact in
    grind (arith, e, s, p, c.if-value.true)

pub returns-else-value : goal.returns-else-value
unfolding with_flag
returns-else-value c =
    let i = c.place_of-mask.ensures.inside in
    let e = mask_at c.place_of-mask.result i in
    let f : c.args.flags.0 < 2 ^ 32 = search rules in
    let s = clear_bit c.args.flags.0 c.place_of-mask.result f i in
    let p = c.place_of-mask.ensures.exact in
    grind (arith, e, s, p, c.if-value.false)
