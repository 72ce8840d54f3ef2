use Rattle.std.proofs.Common.{◌++◌, ◌∷◌, ◌<◌, ◌≤◌, [], length, arith}
use Rattle.m386_base.specs.Bus.{cycle_of}
use Rattle.m386_core.specs.Plans.{entries_left}
use Rattle.m386_core.proofs.UnfinishedSteps.{hears_more, hears_end}
use Rattle.m386_core.proofs.unfinished.Unfinished.hear.Goals as goal

pub returns-then-made-len : goal.returns-then-made-len
returns-then-made-len c =
    let further : c.len-made.result < length c.take.new.self.cycles.items = omega (arith, c.len.ensures.value) in
    λ q s ts ask w enabled none. rw c.take.ensures.plan (hears_more c.args.budget q s ts c.args.end.now c.args.self.now _ (entries_left c.args.cpu c.args.self.now.plan) ask (cycle_of ask c.args.value) c.deref.result.now c.len-made.result _ c.asked.result w (c.take.ensures.hears c.args.budget q s ts c.args.cpu ask w enabled none) c.len-made.ensures.value further c.deref.ensures.0 c.asked.ensures)

pub returns : goal.returns
returns c =
    let all : length c.take.new.self.cycles.items ≤ length c.take.new.self.answers.items = omega (arith, c.len.ensures.value, c.len-made.ensures.value) in
    λ q s ts ask w enabled none. c.settle.ensures.stands q s (ts ++ cycle_of ask c.args.value ∷ []) (hears_end c.args.budget q s ts c.args.end.now c.args.self.now (entries_left c.args.cpu c.args.self.now.plan) (entries_left c.args.cpu c.after-self.result) ask (cycle_of ask c.args.value) c.take.new.self.answers.items c.take.new.self.cycles.items c.take.new.self.after w (c.take.ensures.hears c.args.budget q s ts c.args.cpu ask w enabled none) (rw c.take.ensures.plan at c.after-self.ensures) all)
