use Rattle.std.proofs.Common.{sym, ◌∙◌}
use Rattle.m386.proofs.Tasks.{tasks_are}
use Rattle.m386.proofs.soak.tasks_in.Goals as goal

pub returns : goal.returns
returns c = rw (c.schedulers.ensures.value, c.workers.ensures.value) (sym (tasks_are c.args.number))
