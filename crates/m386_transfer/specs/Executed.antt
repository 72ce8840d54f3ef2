-- What an instruction comes to that may end in a task switch.
use Rattle.std.specs.Prelude.{Option, Some, None}
use Rattle.m386_base.specs.declared.fault.Fault.{Fault}
use Rattle.m386_base.specs.Phrase.{Phrase, Done, ◌>>=◌, either}
use Rattle.m386_checks.specs.declared.facts.Fail.{Fail}
use Rattle.m386_state.specs.declared.proc.Proc.{Proc}
use Rattle.m386_access.specs.Ran.{ran}
use Rattle.m386_access.specs.declared.ran.Ran.{Ran as RanRecord}
use Rattle.m386_switch.specs.declared.outcome.Switched.{Switched}
use Rattle.m386_switch.specs.Switch.{switch_phrase}
use Rattle.m386_transfer.specs.declared.executed.Brief.{Brief}
use Rattle.m386_transfer.specs.declared.executed.Executed.{Executed}
use Rattle.m386_transfer.specs.declared.executed.Executed.TheVariants.{Ran, Came}

-- what is found by an instruction that leaves this state and no fault
abbrev pub ran_to : Proc → Executed
ran_to after = Ran (ran after None)

abbrev pub ran_whole : Proc → Phrase Executed
ran_whole after = Done (ran_to after)

-- an instruction that comes to no switch, and leaves no fault in a new state
unfoldable pub simply : Phrase Proc → Phrase Executed
simply t = t >>= ran_whole

abbrev pub came_whole : Switched → Phrase Executed
came_whole r = Done (Came r)

-- A task switch with nothing behind it.
-- Source: Intel 80386 PRM 7.5
unfoldable pub switching_phrase : Proc → Brief → Phrase Executed
switching_phrase p b = switch_phrase p b.kind b.selector b.direct b.ext >>= came_whole

-- the fault of a row that failed
abbrev pub fault_by : Option Fail → Option Fault
fault_by None = None
fault_by (Some x) = Some x.fault

-- The state that an instruction left, and the fault that is seen in it: of a switch that failed in the old task it is the old state.
-- Source: Intel 80386 PRM 7.5; docs/DECISIONS.md, "A fault in a new task"
abbrev pub as_ran : Executed → RanRecord
as_ran (Ran r) = r
as_ran (Came r) = ran r.after (fault_by r.fail)

-- an instruction whose fault is seen in the state that it left, and in the old one where it left none
unfoldable pub told : Proc → Phrase Executed → Phrase RanRecord
told p t = either t (λ e. Done (as_ran e)) (λ f. Done (ran p (Some f)))
