use Rattle.std.proofs.Common.{rules, ◌<◌, ◌+◌, ◌-◌, ◌^◌, get_or, arith, refl}
use Rattle.m386_core.proofs.Counting.{adds_any, counted_more, count_fits, one_amid, turn_stays, turn_taken}
use Rattle.m386_core.proofs.counted.CountedTurns.group.Goals as goal

pub overflow_add-self : goal.overflow_add-self
overflow_add-self c =
    let m = c.self.inside.machine in
    let adds = adds_any c.args.cpu c.self.inside.machine c.group-came.new.self c.group-came.result c.group-came.ensures.unchanged c.group-came.ensures.made c.group-came.ensures.err in
    let lt : c.args.cpu < m.cpus = rw (← c.self.view_is) at c.requires in
    let below : c.args.cpu < 8 = omega (arith, lt, c.self.invariant.few) in
    let l : get_or c.self.inside.made c.args.cpu 0 + (c.cycles.result - c.cycles-before.result) < 2 ^ 32 = count_fits c.args.cpu c.cycles-before.result c.cycles.result m c.group-came.new.self c.self.inside.made c.self.invariant adds below c.cycles-before.ensures.count c.cycles.ensures.count c.cycles.ensures.kept in
    omega (arith, l)

pub invariant_of-self : goal.invariant_of-self
invariant_of-self c =
    let m = c.self.inside.machine in
    let adds = adds_any c.args.cpu c.self.inside.machine c.group-came.new.self c.group-came.result c.group-came.ensures.unchanged c.group-came.ensures.made c.group-came.ensures.err in
    let lt : c.args.cpu < m.cpus = rw (← c.self.view_is) at c.requires in
    let below : c.args.cpu < 8 = omega (arith, lt, c.self.invariant.few) in
    counted_more c.args.cpu _ c.cycles-before.result c.cycles.result m c.group-came.new.self c.self.inside.made c.self.invariant adds below (search rules) c.cycles-before.ensures.count c.cycles.ensures.count refl

pub returns-clause-stays : goal.returns-clause-stays
returns-clause-stays c =
    let m = c.self.inside.machine in
    let adds = adds_any c.args.cpu c.self.inside.machine c.group-came.new.self c.group-came.result c.group-came.ensures.unchanged c.group-came.ensures.made c.group-came.ensures.err in
    rw (← c.self.view_is) (turn_stays c.args.cpu m c.group-came.new.self c.group-came.result c.group-came.ensures.passed c.group-came.ensures.unchanged adds)

pub returns-clause-turn : goal.returns-clause-turn
returns-clause-turn c =
    let m = c.self.inside.machine in
    rw (← c.self.view_is) (turn_taken c.args.cpu m c.group-came.new.self c.group-came.result (one_amid m c.midgroup.result c.midgroup.ensures.named) c.group-came.ensures.passed c.group-came.ensures.unchanged c.group-came.ensures.made c.group-came.ensures.closed)
