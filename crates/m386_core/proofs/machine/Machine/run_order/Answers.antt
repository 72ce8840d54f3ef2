use Rattle.std.proofs.Common.{filter, ltb}
use Rattle.m386_core.specs.declared.order.Order.TheVariants as orders
use Rattle.m386_core.specs.Order.{listed}
use Rattle.m386_core.specs.Running.{OrderAt}
use Rattle.m386_core.proofs.Runs.{begins_order, run_on}
use Rattle.m386_core.proofs.machine.Machine.run_order.Goals as goal

pub returns-in_err-run_listed-in-List-clause-order : goal.returns-in_err-run_listed-in-List-clause-order
returns-in_err-run_listed-in-List-clause-order c =
    λ none. (
    let at : OrderAt (orders.List c.in-List.members) c.args.self.now (listed (filter (λ p. ltb p c.args.self.now.cpus) c.as_slice.result.now)) = rw c.as_slice.ensures (begins_order (orders.List c.in-List.members) c.args.self.now none) in
    rw c.in-List.is (c.in_err-run_listed-in-List.ensures.order (orders.List c.in-List.members) at))

pub returns-in-Round-clause-run : goal.returns-in-Round-clause-run
returns-in-Round-clause-run c = run_on c.run_turns.result c.run_turns.new.self c.run_turns.ensures.goes.kept c.run_turns.ensures.over

pub returns-in-Round-clause-order : goal.returns-in-Round-clause-order
returns-in-Round-clause-order c = λ none. rw c.in-Round.is (c.run_turns.ensures.order orders.Round (begins_order orders.Round c.args.self.now none))

pub returns-in-Seed-clause-run : goal.returns-in-Seed-clause-run
returns-in-Seed-clause-run c = run_on c.run_drawn.result c.run_drawn.new.self c.run_drawn.ensures.goes.kept c.run_drawn.ensures.over

pub returns-in-Seed-clause-order : goal.returns-in-Seed-clause-order
returns-in-Seed-clause-order c = λ none. rw c.in-Seed.is (c.run_drawn.ensures.order (orders.Seed c.in-Seed.seed) (begins_order (orders.Seed c.in-Seed.seed) c.args.self.now none))

pub returns-in_ok-run_listed-in-List-clause-run : goal.returns-in_ok-run_listed-in-List-clause-run
returns-in_ok-run_listed-in-List-clause-run c = run_on c.run_turns-in-List.result c.run_turns-in-List.new.self c.run_turns-in-List.ensures.goes.kept c.run_turns-in-List.ensures.over

pub returns-in_ok-run_listed-in-List-clause-order : goal.returns-in_ok-run_listed-in-List-clause-order
returns-in_ok-run_listed-in-List-clause-order c =
    λ none. (
    let at : OrderAt (orders.List c.in-List.members) c.args.self.now (listed (filter (λ p. ltb p c.args.self.now.cpus) c.as_slice.result.now)) = rw c.as_slice.ensures (begins_order (orders.List c.in-List.members) c.args.self.now none) in
    rw c.in-List.is (c.run_turns-in-List.ensures.order (orders.List c.in-List.members) (c.in_ok-run_listed-in-List.ensures.order (orders.List c.in-List.members) at)))
