use Rattle.std.proofs.Common.{◌≡◌, false, sym, ◌∙◌, get_or}
use Rattle.m386_checks.specs.First.{first_fail_of}
use Rattle.m386_switch.specs.Later.{stops_at, segment_order}
use Rattle.m386_switch.proofs.Loops.{segments_on}
use Rattle.m386_switch.proofs.later.segments.Goals as goal

pub loop-seg-preserved : goal.loop-seg-preserved
loop-seg-preserved g c =
    let e : stops_at (get_or segment_order c.loop-seg.seg-index 0) (first_fail_of c.in_ok-facts.facts) ≡ false = rw (← c.first_fail.ensures.exact) (sym c.stops_at.ensures ∙ c.if-stops_at.false) in
    record { cycles = segments_on c.args.gdtr c.loop-seg.facts c.in_ok-facts.facts segment_order c.loop-seg.seg-index c.loop-seg-test.true c.loop-seg.invariant.cycles c.in_ok-facts.ensures.cycles e; free = c.in_ok-facts.ensures.free }
