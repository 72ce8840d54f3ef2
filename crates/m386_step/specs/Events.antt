-- Events: what is delivered next, and what its delivery comes to.
use Rattle.std.specs.Prelude.{◌&&◌, Bool, false, not, ℕ, if◌then◌else◌, Option, Some, None}
use Rattle.m386_base.specs.declared.flags.Flag.TheVariants.{Interrupt}
use Rattle.m386_base.specs.Flags.{has_flag}
use Rattle.m386_base.specs.declared.fault.Fault.{Fault}
use Rattle.m386_base.specs.Phrase.{Phrase, Done, ◌>>=◌}
use Rattle.m386_access.specs.declared.ran.Ran.{Ran}
use Rattle.m386_deliver.specs.Deliver.{deliver_phrase, behind_gate_phrase}
use Rattle.m386_deliver.specs.Second.{second_of}
use Rattle.m386_state.specs.declared.event.Event.{Event}
use Rattle.m386_state.specs.declared.event.Cause.TheVariants.{External}
use Rattle.m386_state.specs.declared.proc.Proc.{Proc}
use Rattle.m386_state.specs.declared.proc.Mode.TheVariants.{Running, Shutdown}
use Rattle.m386_switch.specs.declared.outcome.Switched.{Switched}
use Rattle.m386_transfer.specs.declared.executed.Executed.TheVariants.{Came}

-- the event of a requested vector
abbrev pub request_event : ℕ → Event
request_event vector = record { vector = vector; code = None; cause = External }

-- A request is taken with IF set and no shadow.
-- Source: Intel 80386 PRM 9.2.2, 9.2.4
abbrev pub is_open : Proc → Bool
is_open p = has_flag Interrupt p.eflags && not p.shadow

abbrev pub requested : Option ℕ → Bool → Option Event
requested None open_now = None
requested (Some vector) open_now = if open_now then Some (request_event vector) else None

abbrev pub due_of : Option Event → Proc → Option Event
due_of (Some e) p = Some e
due_of None p = requested p.request (is_open p)

-- What is delivered next: the pending event, before a request.
-- Source: Intel 80386 PRM 9.3
abbrev pub due : Proc → Option Event
due p = due_of p.pending p

abbrev pub at_delivery_of : Option Event → Proc → Proc
at_delivery_of (Some e) p = record p { pending = None; mode = Running; shadow = false }
at_delivery_of None p = record p { request = None; mode = Running; shadow = false }

-- The state in which an event is delivered: what is delivered waits no more, and the processor runs, also where it was halted.
-- Source: Intel 80386 PRM 17.2.2.11, HLT; docs/DECISIONS.md, "One step"
abbrev pub at_delivery : Proc → Proc
at_delivery p = at_delivery_of p.pending p

-- Behind a fault that was met on the way: it takes the place of what is pending in the state that it is seen in.
-- Source: Intel 80386 PRM 9.8.8; docs/DECISIONS.md, "An error code in a new task"
abbrev pub behind_second : Proc → Option Event → Proc
behind_second p (Some e) = record p { pending = Some e }
behind_second p None = record p { pending = None; mode = Shutdown }

abbrev pub behind_met : Event → Proc → Option Fault → Proc
behind_met e p None = p
behind_met e p (Some f) = behind_second p (second_of e f)

-- The state behind a delivery: a fault that was met on the way is pending where it is seen, or the processor shuts down there.
-- Source: Intel 80386 PRM 9.8.8
abbrev pub behind_delivery : Event → Ran → Proc
behind_delivery e r = behind_met e r.after r.fault

-- An event is delivered.
-- Source: Intel 80386 PRM 9.6, 9.8.8
unfoldable pub delivery_phrase : Proc → Event → Phrase Proc
delivery_phrase p e = deliver_phrase p e >>= (λ r. Done (behind_delivery e r))

-- What a delivery makes of a switch that its task gate asked for: where no row failed the error code is pushed, where there is one.
-- Source: Intel 80386 PRM 9.6.2
unfoldable pub behind_task_phrase : Event → Switched → Phrase Proc
behind_task_phrase e came = behind_gate_phrase e.code (Came came) >>= (λ r. Done (behind_delivery e r))
