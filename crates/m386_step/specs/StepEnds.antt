-- How an attempt at a task switch within a whole step ends.
use Rattle.std.specs.Prelude.{◌≡◌, ◌⊎◌, ℕ, false, Some, None, List, [], ◌++◌}
use Rattle.std.specs.List.{AllByRecursion}
use Rattle.m386_base.specs.declared.ask.Ask.{Ask}
use Rattle.m386_base.specs.declared.kind.SwitchKind.{SwitchKind}
use Rattle.m386_base.specs.declared.kind.SwitchKind.TheVariants as switches
use Rattle.m386_base.specs.Phrase.{Attempt, follow, Whole}
use Rattle.m386_deliver.specs.Gate.{is_from_outside}
use Rattle.m386_state.specs.declared.event.Event.{Event}
use Rattle.m386_state.specs.declared.proc.Proc.{Proc}
use Rattle.m386_switch.specs.declared.outcome.Switched.{Switched}
use Rattle.m386_switch.specs.Attempts.{is_of_a_switch}
use Rattle.m386_switch.specs.Ends.{SwitchEnds}
use Rattle.m386_switch.specs.Switch.{attempt_of}
use Rattle.m386_step.specs.Events.{due, at_delivery, behind_task_phrase}
use Rattle.m386_step.specs.Settled.{behind_switch, behind_start}

-- The state in which the work of a switch begins that a start or an instruction makes. A start is owed no more; an instruction has EIP
-- behind it, and a shadow has ended.
-- Source: Intel 80386 PRM 7.5; a start: docs/DECISIONS.md, "Start"
abbrev pub at_attempt : SwitchKind → Proc → ℕ → Proc
at_attempt switches.Start s next = record s { start = None }
at_attempt _ s next = record s { shadow = false; eip = next }

-- The state that a step leaves which began in s and came to a switch.
-- Source: Intel 80386 PRM 7.5; docs/DECISIONS.md, "A fault in a new task"
abbrev pub behind_attempt : SwitchKind → Proc → Switched → Proc
behind_attempt switches.Start s came = behind_start (record s { start = None }) came
behind_attempt _ s came = behind_switch (record s { shadow = false }) came

-- An instruction or a start made the switch, and nothing stands behind it.
-- next: EIP behind the instruction. state: the step left what the switch makes of s.
-- Source: Intel 80386 PRM 7.5; docs/DECISIONS.md, "A fault in a new task"
pub record EndsAtOnce (s : Proc) (kind : SwitchKind) (begun : Proc) (came : Switched) (behind : List Ask) (s2 : Proc) : Type 0 where
  pub next : ℕ
  pub begins : begun ≡ at_attempt kind s next
  pub nothing : behind ≡ []
  pub state : s2 ≡ behind_attempt kind s came

-- The delivery of an event that was due in s made the switch, through a task gate of the IDT: with EXT as the event has it, and in the
-- state in which it is delivered. Behind a switch that went through stands the push of the error code, where there is one.
-- state: what the step left is what the delivery makes of the switch and of these cycles behind it.
-- Source: Intel 80386 PRM 9.6.2, 9.7; docs/DECISIONS.md, "An error code in a new task"
pub record EndsDelivery (s : Proc) (m : Attempt) (begun : Proc) (came : Switched) (behind : List Ask) (s2 : Proc) : Type 0 where
  pub event : Event
  pub is_due : due s ≡ Some event
  pub kind : m.kind ≡ switches.Event
  pub direct : m.direct ≡ false
  pub ext : m.ext ≡ is_from_outside event.cause
  pub begins : begun ≡ at_delivery s
  pub state : follow (behind_task_phrase event came) behind ≡ Whole s2 []

-- An attempt m of a step from s to s2, whose cycles are us, ended as SwitchEnds says, and the step left what that makes of s.
-- begun: the state in which the work of the switch began. came: what the switch came to. own, behind: the cycles of the switch, and those
-- behind it. known: what was known where it began is that of the state then.
-- Source: Intel 80386 PRM 7.5; docs/DECISIONS.md, "The check table of a task switch"
pub record StepEnds (s : Proc) (m : Attempt) (us : List Ask) (s2 : Proc) : Type 0 where
  pub begun : Proc
  pub came : Switched
  pub own : List Ask
  pub behind : List Ask
  pub joined : us ≡ own ++ behind
  pub known : m ≡ attempt_of begun m.kind m.selector m.direct m.ext
  pub ends : SwitchEnds m own begun came
  pub leaves : EndsAtOnce s m.kind begun came behind s2 ⊎ EndsDelivery s m begun came behind s2

-- The cycles us are the last ones of a step's cycles ts; those before them are reads, and none of them is of a switch.
pub record IsBehindReads (ts us : List Ask) : Type 0 where
  pub before : List Ask
  pub joined : ts ≡ before ++ us
  pub reads : AllByRecursion (λ (t : Ask). (t.write ≡ false) × (is_of_a_switch t.role ≡ false)) before
