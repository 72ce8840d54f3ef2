-- The delivery of an event: through an interrupt or trap gate to a handler, or through a task gate to a task.
use Rattle.std.specs.Prelude.{ℕ, Bool, true, false, List, [], ◌∷◌, ◌++◌, nat_lt, if◌then◌else◌, Option, Some, None}
use Rattle.m386_base.specs.declared.desc.Desc.{Desc}
use Rattle.m386_base.specs.declared.flags.Flag.TheVariants.{Trap, Interrupt, NestedTask}
use Rattle.m386_base.specs.declared.kind.SwitchKind.TheVariants as switches
use Rattle.m386_base.specs.declared.number.Flags.{Flags}
use Rattle.m386_base.specs.Flags.{with_flag}
use Rattle.m386_base.specs.Phrase.{Phrase, Done, ◌>>=◌, either}
use Rattle.m386_base.specs.Segments.{cs, ss}
use Rattle.m386_checks.specs.declared.facts.Fail.{Fail}
use Rattle.m386_desc.specs.declared.kind.Kind.{Kind}
use Rattle.m386_desc.specs.declared.kind.Kind.TheVariants as kinds
use Rattle.m386_desc.specs.Access.{kind_of}
use Rattle.m386_state.specs.declared.event.Event.{Event}
use Rattle.m386_state.specs.declared.proc.Proc.{Proc}
use Rattle.m386_state.specs.Start.{cpl_of, seg_at}
use Rattle.m386_access.specs.After.{register_of, with_flags}
use Rattle.m386_access.specs.Ran.{ran}
use Rattle.m386_access.specs.Registers.{esp}
use Rattle.m386_access.specs.declared.ran.Ran.{Ran as RanRecord}
use Rattle.m386_segload.specs.Load.{take_phrase}
use Rattle.m386_segload.specs.Rules.{need, target_rules}
use Rattle.m386_stack.specs.declared.stack.Stack.{Stack}
use Rattle.m386_stack.specs.Stack.{own_stack, push_phrase, pushes, with_stack}
use Rattle.m386_transfer.specs.declared.executed.Brief.{Brief}
use Rattle.m386_transfer.specs.declared.executed.Executed.{Executed}
use Rattle.m386_transfer.specs.declared.executed.Executed.TheVariants.{Ran, Came}
use Rattle.m386_transfer.specs.declared.place.Target.{Target}
use Rattle.m386_transfer.specs.Executed.{simply, switching_phrase}
use Rattle.m386_transfer.specs.Gate.{gate_of}
use Rattle.m386_transfer.specs.Place.{level_of, placed, stack_for_phrase, target_fault}
use Rattle.m386_deliver.specs.Gate.{gate_phrase, is_from_outside}

-- where a gate leads, in code that was taken
abbrev pub gate_target : Proc → Desc → Desc → Target
gate_target p g d = record { selector = (gate_of g).selector; desc = d; level = level_of p d; offset = (gate_of g).offset }

-- the code, where there is one
abbrev pub optional : Option ℕ → List ℕ
optional None = []
optional (Some n) = n ∷ []

-- What is pushed, in its order: SS and ESP where the level is an inner one; EFLAGS, CS and EIP; the code where there is one.
-- Source: Intel 80386 PRM 9.6.1.1, 9.7
abbrev pub frame_of : Proc → ℕ → Option ℕ → List ℕ
frame_of p level code =
    (if nat_lt level (cpl_of p) then (seg_at p ss).selector ∷ register_of p esp ∷ [] else [])
    ++ (p.eflags.0 ∷ (seg_at p cs).selector ∷ p.eip ∷ []) ++ optional code

-- TF and NT are cleared, and IF by an interrupt gate.
-- Source: Intel 80386 PRM 9.6.1.2, 9.6.1.3
abbrev pub handler_flags : Kind → Flags → Flags
handler_flags kinds.IntGate f = with_flag Interrupt false (with_flag Trap false (with_flag NestedTask false f))
handler_flags _ f = with_flag Trap false (with_flag NestedTask false f)

-- the state in the handler
unfoldable pub entered : Proc → Desc → Target → Stack → Proc
entered p g t st = with_flags (placed p t st) (handler_flags (kind_of g) p.eflags)

-- the frame is pushed, and the handler is entered
unfoldable pub framed_phrase : Proc → Desc → Target → Stack → List ℕ → Phrase Proc
framed_phrase p g t st values = pushes st 4 values >>= (λ top. Done (entered p g t top))

-- the gate's offset, and the frame
unfoldable pub pushed_phrase : Proc → Event → Desc → Target → Stack → Phrase Proc
pushed_phrase p e g t st = need (target_fault t) (framed_phrase p g t st (frame_of p t.level e.code))

-- An interrupt or trap gate: the rules of its code, the stack of the code's level, the offset, and the frame.
-- Source: Intel 80386 PRM 9.6.1, 9.6.1.4, 6.3.4.1
unfoldable pub through_phrase : Proc → Event → Desc → Phrase Proc
through_phrase p e g = do
  d ← take_phrase target_rules p (cpl_of p) (is_from_outside e.cause) (gate_of g).selector
  st ← stack_for_phrase p (level_of p d) (is_from_outside e.cause)
  pushed_phrase p e g (gate_target p g d) st

-- The switch to the task that a task gate names, with EXT as the event has it.
-- Source: Intel 80386 PRM 9.6.2, 7.5, 9.7
abbrev pub gate_brief : Event → Desc → Brief
gate_brief e g = record { kind = switches.Event; selector = (gate_of g).selector; direct = false; ext = is_from_outside e.cause }

-- the gate leads to a task
abbrev pub leads_to_task : Kind → Bool
leads_to_task kinds.TaskGate = true
leads_to_task _ = false

-- by the type of the gate
abbrev pub by_gate_phrase : Proc → Event → Desc → Phrase Executed
by_gate_phrase p e g = if leads_to_task (kind_of g) then switching_phrase p (gate_brief e g) else simply (through_phrase p e g)

-- An event through its gate, without the error code of a task gate.
-- Source: Intel 80386 PRM 9.5, 9.6
unfoldable pub entered_phrase : Proc → Event → Phrase Executed
entered_phrase p e = gate_phrase p e >>= (λ g. by_gate_phrase p e g)

-- a doubleword pushed on the stack of a state
unfoldable pub pushed_on_phrase : Proc → ℕ → Phrase Proc
pushed_on_phrase p value = push_phrase (own_stack p) 4 value >>= (λ st. Done (with_stack p st))

-- The error code is pushed on the stack of the new task. A fault of that push is seen there.
-- Source: Intel 80386 PRM 9.6.2, 9.7
abbrev pub with_code_phrase : Proc → Option ℕ → Phrase RanRecord
with_code_phrase p None = Done (ran p None)
with_code_phrase p (Some code) = either (pushed_on_phrase p code) (λ after. Done (ran after None)) (λ f. Done (ran p (Some f)))

-- the code is pushed where all rows of the check table hold
abbrev pub by_rows_phrase : Option Fail → Proc → Option ℕ → Phrase RanRecord
by_rows_phrase None p code = with_code_phrase p code
by_rows_phrase (Some x) p code = Done (ran p (Some x.fault))

-- What stands behind the gate: a switch that went through pushes the code; a handler has it in its frame.
-- Source: Intel 80386 PRM 9.6.2; docs/DECISIONS.md, "An error code in a new task"
abbrev pub behind_gate_phrase : Option ℕ → Executed → Phrase RanRecord
behind_gate_phrase code (Ran r) = Done r
behind_gate_phrase code (Came r) = by_rows_phrase r.fail r.after code

-- the same, where a fault that comes before a handler or a task was entered is seen in the state before
unfoldable pub met_phrase : Proc → Event → Phrase Executed
met_phrase p e = either (entered_phrase p e) Done (λ f. Done (Ran (ran p (Some f))))

-- The delivery of an event: the state that it leaves, and the fault that was met on the way and is seen in that state.
-- Source: Intel 80386 PRM 9.5, 9.6
unfoldable pub deliver_phrase : Proc → Event → Phrase RanRecord
deliver_phrase p e = met_phrase p e >>= behind_gate_phrase e.code
