use Rattle.std.proofs.Common.{◌≡◌, ℕ, ◌-◌, ◌+◌, ◌++◌, map, refl, ap, sym, ◌∙◌, arith}
use Rattle.std.specs.List.{range_with_len}
use Rattle.m386_gen.specs.Generated.{tick_of}
use Rattle.m386_gen.proofs.Counting.{map_on}
use Rattle.m386_gen.proofs.generate.add_ticks.Goals as goal

pub loop-tick-preserved : goal.loop-tick-preserved
loop-tick-preserved c =
    let more : c.loop-tick.tick + 1 - 1 ≡ c.loop-tick.tick - 1 + 1 = omega (arith, c.loop-tick.auto.tick) in
    map_on 1 (c.loop-tick.tick - 1) c.loop-tick.tick c.loop-tick.plan _ c.args.plan.now (tick_of c.args.cpu) c.loop-tick.invariant (omega (arith, c.loop-tick.auto.tick)) c.in_ok-push.ensures.ok
    ∙ ap (λ (n : ℕ). c.args.plan.now ++ map (tick_of c.args.cpu) (range_with_len 1 n)) (sym more)

pub returns : goal.returns
returns c =
    let all : c.loop-tick.tick - 1 ≡ 10 = omega (arith, c.loop-tick.auto.tick-end, c.loop-tick-test.false) in
    c.loop-tick.invariant ∙ ap (λ (n : ℕ). c.args.plan.now ++ map (tick_of c.args.cpu) (range_with_len 1 n)) all
