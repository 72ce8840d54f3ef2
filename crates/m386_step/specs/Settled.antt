-- The state behind an instruction: with its trap, or with its fault pending; and behind a task switch.
use Rattle.std.specs.Prelude.{Bool, true, false, if◌then◌else◌, Option, Some, None}
use Rattle.m386_base.specs.declared.exception.Exception.TheVariants.{Debug}
use Rattle.m386_base.specs.declared.fault.Fault.{Fault}
use Rattle.m386_base.specs.declared.flags.Flag.TheVariants.{Trap}
use Rattle.m386_base.specs.Exceptions.{fault_of}
use Rattle.m386_base.specs.Flags.{has_flag}
use Rattle.m386_checks.specs.declared.facts.Context.{Context}
use Rattle.m386_checks.specs.declared.facts.Context.TheVariants.{Old, New}
use Rattle.m386_checks.specs.declared.facts.Fail.{Fail}
use Rattle.m386_deliver.specs.Second.{event_of}
use Rattle.m386_state.specs.declared.proc.Proc.{Proc}
use Rattle.m386_state.specs.declared.proc.Mode.TheVariants.{Shutdown}
use Rattle.m386_switch.specs.declared.outcome.Switched.{Switched}

-- an exception is pending
abbrev pub faulted : Proc → Fault → Proc
faulted p f = record p { pending = Some (event_of f) }

-- With TF set at the start of an instruction, vector 1 is pending after it.
-- Source: Intel 80386 PRM 12.3.1.4
abbrev pub traced : Proc → Proc → Proc
traced before after = if has_flag Trap before.eflags then faulted after (fault_of Debug) else after

-- The state behind an instruction that began in a state, by whether it made a delivery: with its trap, which a delivery has not, or
-- with the fault that is seen in the new state.
-- Source: Intel 80386 PRM 12.3.1.4; deliveries: docs/DECISIONS.md, "One step"
abbrev pub settled : Bool → Proc → Proc → Option Fault → Proc
settled delivered before after (Some f) = faulted after f
settled true before after None = after
settled false before after None = traced before after

abbrev pub seen_in : Context → Proc → Proc → Fault → Proc
seen_in Old before after f = faulted before f
seen_in New before after f = faulted after f

abbrev pub behind_row : Option Fail → Proc → Proc → Proc
behind_row None before after = after
behind_row (Some x) before after = seen_in x.context before after x.fault

-- The state behind an instruction that began in a state and came to a task switch. A row that failed in the old task is seen in the
-- state before, one that failed in the new task in the new state. Behind a switch there is no trap.
-- Source: Intel 80386 PRM 7.5, 12.3.1.4; docs/DECISIONS.md, "A fault in a new task"
abbrev pub behind_switch : Proc → Switched → Proc
behind_switch before r = behind_row r.fail before r.after

abbrev pub started_in : Context → Proc → Proc → Fault → Proc
started_in Old before after f = record before { mode = Shutdown }
started_in New before after f = faulted after f

abbrev pub behind_first_row : Option Fail → Proc → Proc → Proc
behind_first_row None before after = after
behind_first_row (Some x) before after = started_in x.context before after x.fault

-- The state behind the start of a task. There is no old task in which a failed row could be seen: the processor shuts down.
-- Own choice: docs/DECISIONS.md, "Start"
abbrev pub behind_start : Proc → Switched → Proc
behind_start before r = behind_first_row r.fail before r.after
