-- One step of one processor, as a grammar over its cycles.
use Rattle.std.specs.Prelude.{ℕ, false, Option, Some, None, List}
use Rattle.m386_base.specs.declared.ask.Ask.{Ask}
use Rattle.m386_base.specs.declared.kind.SwitchKind.TheVariants.{Start}
use Rattle.m386_base.specs.Phrase.{Phrase, Done, ◌>>=◌, either, Judgement, follow}
use Rattle.m386_state.specs.declared.event.Event.{Event}
use Rattle.m386_state.specs.declared.proc.Proc.{Proc}
use Rattle.m386_state.specs.declared.proc.Mode.{Mode}
use Rattle.m386_state.specs.declared.proc.Mode.TheVariants.{Running, Halted, Shutdown}
use Rattle.m386_step.specs.Events.{due, at_delivery, delivery_phrase}
use Rattle.m386_step.specs.Instruction.{instruction_phrase}
use Rattle.m386_step.specs.Settled.{faulted, behind_start}
use Rattle.m386_switch.specs.Switch.{switch_phrase}

-- a start is owed no more
abbrev pub without_start : Proc → Proc
without_start p = record p { start = None }

-- The start of a processor in its first task: a switch that leaves no task.
-- Source: Intel 80386 PRM 7.5; own choice: docs/DECISIONS.md, "Start"
unfoldable pub start_phrase : Proc → ℕ → Phrase Proc
start_phrase p selector = switch_phrase (without_start p) Start selector false false >>= (λ r. Done (behind_start (without_start p) r))

-- An instruction, with its fault pending afterwards. A fault that leaves no new state is seen in the old one.
unfoldable pub running_phrase : Proc → Phrase Proc
running_phrase p = either (instruction_phrase p) Done (λ f. Done (faulted p f))

-- a turn with no event, by mode
abbrev pub turn_phrase : Mode → Proc → Phrase Proc
turn_phrase Running p = running_phrase p
turn_phrase Halted p = Done p
turn_phrase Shutdown p = Done p

-- the delivery of an event that is due, or else a turn; a shadow ends with the step that begins under it
abbrev pub event_or_turn : Option Event → Proc → Phrase Proc
event_or_turn (Some e) p = delivery_phrase (at_delivery p) e
event_or_turn None p = turn_phrase p.mode (record p { shadow = false })

abbrev pub start_or_event : Option ℕ → Proc → Phrase Proc
start_or_event (Some selector) p = start_phrase p selector
start_or_event None p = event_or_turn (due p) p

-- One step.
-- Source: Intel 80386 PRM 9.2, 9.3; the order: docs/DECISIONS.md, "One step"
unfoldable pub step_phrase : Proc → Phrase Proc
step_phrase p = start_or_event p.start p

-- Judges cycles as one step from a state: Whole, Wants or Wrong.
abbrev pub Follow : Proc → List Ask → Judgement Proc
Follow p ts = follow (step_phrase p) ts
