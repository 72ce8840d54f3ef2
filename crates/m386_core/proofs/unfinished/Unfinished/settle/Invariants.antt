use Rattle.std.proofs.Common.{◌-◌, ◌≤◌, ◌≡◌, [], List}
use Rattle.m386_base.specs.declared.ask.Ask.{Ask}
use Rattle.m386_state.specs.declared.proc.Proc.{Proc}
use Rattle.m386_step.specs.Steps.{Plan}
use Rattle.m386_core.specs.Plans.{entries_left}
use Rattle.m386_core.specs.Unfinished.{StepsLeaving}
use Rattle.m386_core.proofs.unfinished.Unfinished.settle.Given as goal

abbrev pub invariant-loop-end : goal.invariant-loop-end
invariant-loop-end l = record {
  within : l.end.steps ≤ l.budget;
  none : l.self.answers.items ≡ [];
  steps : (q : Plan) (s : Proc) (ts : List Ask) → StepsLeaving l.initial.end.steps q 0 s ts l.initial.end.after (entries_left l.cpu l.initial.self.plan) → StepsLeaving l.end.steps q 0 s ts l.end.after (entries_left l.cpu l.self.plan);
}

abbrev pub decreases-loop-end : goal.decreases-loop-end
decreases-loop-end l = l.budget - l.end.steps
