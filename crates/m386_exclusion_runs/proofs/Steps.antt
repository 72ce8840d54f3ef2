-- Each step keeps the law of a step.
use Rattle.std.proofs.Common.{◌≡◌, ℕ, ◌+◌, ◌%◌, ◌^◌, ◌∙◌, inl, inr, refl, sym, ap, subst, List, [], Bool, true, false, cond, Option, Some, None}
use Rattle.m386_base.specs.declared.ask.Ask.{Ask}
use Rattle.m386_base.specs.declared.fault.Fault.{Fault}
use Rattle.m386_base.specs.declared.flags.Flag.TheVariants.{Trap}
use Rattle.m386_base.specs.declared.kind.SwitchKind.TheVariants.{Start}
use Rattle.m386_base.specs.Bus.{cycle_of}
use Rattle.m386_base.specs.Flags.{has_flag}
use Rattle.m386_base.specs.Laws.{Turns}
use Rattle.m386_base.specs.Plain.{Plain}
use Rattle.m386_base.specs.Segments.{ss}
use Rattle.m386_base.proofs.Plain.{plain_done}
use Rattle.m386_base.specs.Phrase.{Phrase, Done, Faults, Asks, Begins, follow, Whole}
use Rattle.m386_checks.specs.declared.facts.Context.{Context}
use Rattle.m386_checks.specs.declared.facts.Context.TheVariants.{Old, New}
use Rattle.m386_checks.specs.declared.facts.Fail.{Fail}
use Rattle.m386_decode.specs.declared.decoded.Decoded.{Decoded}
use Rattle.m386_opmap.specs.declared.op.Op.{Op}
use Rattle.m386_state.specs.declared.event.Event.{Event}
use Rattle.m386_state.specs.declared.proc.Mode.{Mode}
use Rattle.m386_state.specs.declared.proc.Mode.TheVariants.{Running, Halted, Shutdown}
use Rattle.m386_state.specs.declared.proc.Proc.{Proc}
use Rattle.m386_state.specs.declared.segment.TableReg.{TableReg}
use Rattle.m386_access.specs.After.{at_eip}
use Rattle.m386_access.specs.Ordinary.{Ordinary, is_nested}
use Rattle.m386_access.specs.declared.ran.Ran.{Ran as RanRecord}
use Rattle.m386_access.proofs.Phrases.{Stays, stays_same}
use Rattle.m386_deliver.specs.Deliver.{entered_phrase, met_phrase, pushed_on_phrase, with_code_phrase, by_rows_phrase, behind_gate_phrase, deliver_phrase}
use Rattle.m386_deliver.specs.Exec.{delivers}
use Rattle.m386_deliver.specs.Second.{second_of}
use Rattle.m386_deliver.proofs.Plain.{tried_entered}
use Rattle.m386_stages.specs.Stages.{Stage, Phase, Free, Turned, Linking, Called, Jumped, Loaded, Backing, Returned, Ready, Hears, EndsIn, Keeps as KeepsToStages, Left, begins, hears, on, task_of, Path}
use Rattle.m386_stages.proofs.Chains.{turns_then, turns_weaken}
use Rattle.m386_stages.proofs.Law.{switch_keeps}
use Rattle.m386_stages.proofs.Ways.{turns_whole}
use Rattle.m386_segload.specs.Segments.{with_segment}
use Rattle.m386_stack.specs.Stack.{own_stack}
use Rattle.m386_stack.proofs.Plain.{stays_pointer, stays_segment}
use Rattle.m386_stack.proofs.Pushed.{push_then}
use Rattle.m386_string.specs.Repetition.{behind_turn, is_followed}
use Rattle.m386_string.specs.Element.{element_of}
use Rattle.m386_switch.specs.declared.outcome.Switched.{Switched}
use Rattle.m386_switch.specs.Switch.{switch_phrase}
use Rattle.m386_transfer.specs.declared.executed.Executed.{Executed}
use Rattle.m386_transfer.specs.declared.executed.Executed.TheVariants.{Ran, Came}
use Rattle.m386_step.specs.Code.{decode_phrase}
use Rattle.m386_step.specs.Events.{due, at_delivery_of, behind_second, behind_met, delivery_phrase}
use Rattle.m386_step.specs.Fetch.{first_reader}
use Rattle.m386_step.specs.Instruction.{behind_operation, decoded_phrase, instruction_phrase, operation_phrase}
use Rattle.m386_step.specs.Settled.{faulted, settled, seen_in, behind_row, behind_switch, started_in, behind_first_row, behind_start}
use Rattle.m386_step.specs.Step.{without_start, start_phrase, running_phrase, turn_phrase, event_or_turn, start_or_event, step_phrase}
use Rattle.m386_step.proofs.StepAttempts.{Looks, looks_decode}
use Rattle.m386_exclusion.specs.Histories.{NoEnd, Stands, StepLaw}
use Rattle.m386_exclusion_runs.proofs.Ordinary.{StandsBefore, behind_none, remaining_turns, turns_done, turns_either, turns_excuse, turns_soundly}
use Rattle.m386_exclusion_runs.proofs.Operations.{RanTo, operation_turns, tried_turns}

-- ---- states that differ in nothing of these laws

-- where one state stands another does with its task and its NT
ends_alike : (a b : Proc) (ph : Phase) → task_of b.tr ≡ task_of a.tr → is_nested b ≡ is_nested a → EndsIn a ph → EndsIn b ph
ends_alike a b (Free tr nt) t n e = (t ∙ e.0, λ h. e.1 (sym n ∙ h))
ends_alike a b (Turned k o x nt z) t n e = e
ends_alike a b (Linking o x) t n e = e
ends_alike a b (Called x) t n e = t ∙ e
ends_alike a b (Jumped x) t n e = (t ∙ e.0, n ∙ e.1)
ends_alike a b (Loaded x nt) t n e = (t ∙ e.0, λ h. e.1 (sym n ∙ h))
ends_alike a b (Backing o bs) t n e = t ∙ e
ends_alike a b (Returned x) t n e = e
ends_alike a b (Ready x nt) t n e = (t ∙ e.0, n ∙ e.1)

stands_alike : (p q a b : Proc) (g : Stage) → q.gdtr ≡ p.gdtr → b.gdtr ≡ a.gdtr → task_of b.tr ≡ task_of a.tr → is_nested b ≡ is_nested a → Stands p g a → Stands q g b
stands_alike p q a b g d e t n s = record { phase = ends_alike a b g.phase t n s.phase; gdtr = elim s.gdtr [ inl i ↦ inl (e ∙ i ∙ sym d) | inr i ↦ inr i ] }

-- the state before, where nothing was claimed
stands_before : (p a : Proc) (g : Stage) → a.gdtr ≡ p.gdtr → task_of a.tr ≡ task_of p.tr → is_nested a ≡ is_nested p → EndsIn p g.phase → Stands p g a
stands_before p a g e t n h = record { phase = ends_alike p a g.phase t n h; gdtr = inl e }

-- ---- what a step makes of an operation

turn_stands : (op : Op) (p : Proc) (g : Stage) (after : Proc) → Stands p g after → Stands p g (behind_turn op p after)
unfolding behind_turn
turn_stands op p g after s = go (is_followed (element_of op.name) op.rep p after)
  where
    go : (b : Bool) → Stands p g (cond b (at_eip after p.eip) after)
    go true = stands_alike p p after (at_eip after p.eip) g refl refl refl refl s
    go false = s

pending_stands : (p : Proc) (g : Stage) (after : Proc) (e : Option Event) (b : Bool) → Stands p g after → Stands p g (cond b (record after { pending = e }) after)
pending_stands p g after e true s = stands_alike p p after (record after { pending = e }) g refl refl refl refl s
pending_stands p g after e false s = s

settled_stands : (delivered : Bool) (p : Proc) (g : Stage) (after : Proc) (fault : Option Fault) → Stands p g after → Stands p g (settled delivered p after fault)
settled_stands delivered p g after (Some f) s = stands_alike p p after (faulted after f) g refl refl refl refl s
settled_stands true p g after None s = s
settled_stands false p g after None s = pending_stands p g after _ (has_flag Trap p.eflags) s

-- a row that failed, in the state in which it is seen
row_stands : (p begun : Proc) (g : Stage) (r : Switched) (after : Context → Fault → Proc) → begun.gdtr ≡ p.gdtr
    → ((f : Fault) → ((after Old f).gdtr ≡ p.gdtr) × (task_of (after Old f).tr ≡ task_of begun.tr) × (is_nested (after Old f) ≡ is_nested begun))
    → ((f : Fault) → ((after New f).gdtr ≡ r.after.gdtr) × (task_of (after New f).tr ≡ task_of r.after.tr) × (is_nested (after New f) ≡ is_nested r.after))
    → Left begun g r → (x : Fail) → r.fail ≡ Some x → (c : Context) → x.context ≡ c → Stands p g (after c x.fault)
row_stands p begun g r after d old new l x e Old i = let k = old x.fault in record { phase = ends_alike begun (after Old x.fault) g.phase k.1 k.2 (l.told x e i); gdtr = inl k.0 }
row_stands p begun g r after d old new l x e New i = let k = new x.fault in record { phase = ends_alike r.after (after New x.fault) g.phase k.1 k.2 l.stands; gdtr = inl (k.0 ∙ l.gdtr ∙ d) }

came_stands : (p begun : Proc) (g : Stage) (r : Switched) → begun.gdtr ≡ p.gdtr → Left begun g r → Stands p g r.after
came_stands p begun g r d l = record { phase = l.stands; gdtr = inl (l.gdtr ∙ d) }

abbrev seen_so : Proc → Proc → Context → Fault → Proc
seen_so before after c f = seen_in c before after f

switched_stands : (p : Proc) (next : ℕ) (g : Stage) (r : Switched) → Left (at_eip p next) g r → Stands p g (behind_switch p r)
switched_stands p next g r l = go r.fail refl
  where
    go : (fail : Option Fail) → r.fail ≡ fail → Stands p g (behind_row fail p r.after)
    go None e = came_stands p (at_eip p next) g r refl l
    go (Some x) e = row_stands p (at_eip p next) g r (seen_so p r.after) refl (λ f. (refl, refl, refl)) (λ f. (refl, refl, refl)) l x e x.context refl

started_stands : (p begun : Proc) (g : Stage) (r : Switched) → begun.gdtr ≡ p.gdtr → Left begun g r → Stands p g (behind_start begun r)
started_stands p begun g r d l = go r.fail refl
  where
    go : (fail : Option Fail) → r.fail ≡ fail → Stands p g (behind_first_row fail begun r.after)
    go None e = came_stands p begun g r d l
    go (Some x) e = row_stands p begun g r (λ c f. started_in c begun r.after f) d (λ f. (d, refl, refl)) (λ f. (refl, refl, refl)) l x e x.context refl

operation_stands : (op : Op) (p : Proc) (next : ℕ) (g : Stage) (e : Executed) → RanTo (at_eip p next) g e → Stands p g (behind_operation op p e)
operation_stands op p next g (Ran r) s = settled_stands (delivers op p) p g _ r.fault (turn_stands op p g r.after (stands_alike (at_eip p next) p r.after r.after g refl refl refl refl s))
operation_stands op p next g (Came r) s = switched_stands p next g r s

-- ---- the fetches

read_made : (q : Ask) (v : ℕ) → q.write ≡ false → (cycle_of q v).write ≡ false
unfolding cycle_of
read_made q v w = rw w refl

-- a phrase that only reads, and comes to no switch
looks_turns : {A : Type 0} (gdt : TableReg) (ph : Phase) (g : Stage) (t : Phrase A) → g.phase ≡ ph → Looks t → Turns (on gdt) (λ g2 a. g2.phase ≡ ph) (λ g2 f. g2.phase ≡ ph) g t
unfolding Looks Turns
looks_turns gdt ph g (Done a) e h = e
looks_turns gdt ph g (Faults f) e h = e
looks_turns gdt ph g (Begins m t) e h = absurd h
looks_turns gdt ph g (Asks q c) e h = λ v.
    let r : (cycle_of q v).write ≡ false = read_made q v h.0 in
    (hears g (cycle_of q v) g.phase, Hears r refl, looks_turns gdt ph (hears g (cycle_of q v) g.phase) (c v) e (h.2 v))

-- ---- the step

-- where a step may end, and where an instruction may fault
abbrev StepTurns : Proc → Stage → Phrase Proc → Type 0
StepTurns p g t = Turns (on p.gdtr) (Stands p) NoEnd g t

decoded_turns : (p : Proc) (g : Stage) (d : Decoded) → g.phase ≡ (begins p).phase → Turns (on p.gdtr) (Stands p) (StandsBefore p) g (decoded_phrase d.op d.len p)
unfolding decoded_phrase
decoded_turns p g d e =
    let next : ℕ = (p.eip + d.len) % 2 ^ 32 in
    turns_then (on p.gdtr) (RanTo (at_eip p next)) (Stands p) (StandsBefore p) g (operation_phrase d.op (at_eip p next)) _
    (operation_turns d.op (at_eip p next) g (behind_none (at_eip p next) (is_nested p) g e (λ n. n)))
    (λ r g2 s. turns_done (on p.gdtr) (Stands p) (StandsBefore p) g2 _ (operation_stands d.op p next g2 r s))

instruction_turns : (p : Proc) → Turns (on p.gdtr) (Stands p) (StandsBefore p) (begins p) (instruction_phrase p)
unfolding instruction_phrase
instruction_turns p =
    turns_then (on p.gdtr) (λ g2 d. g2.phase ≡ (begins p).phase) (Stands p) (StandsBefore p) (begins p) (decode_phrase (first_reader p)) _
    (turns_excuse (on p.gdtr) _ (λ g2 f. g2.phase ≡ (begins p).phase) (StandsBefore p) (begins p) _ (λ f g2 e. subst (EndsIn p) (sym e) (refl, λ n. n)) (looks_turns p.gdtr (begins p).phase (begins p) (decode_phrase (first_reader p)) refl (looks_decode (first_reader p))))
    (λ d g2 e. decoded_turns p g2 d e)

running_turns : (p : Proc) → StepTurns p (begins p) (running_phrase p)
unfolding running_phrase
running_turns p =
    turns_either (on p.gdtr) (Stands p) (Stands p) (StandsBefore p) NoEnd (begins p) (instruction_phrase p) _ _ (instruction_turns p)
    (λ after g2 s. turns_done (on p.gdtr) (Stands p) NoEnd g2 after s)
    (λ f g2 h. turns_done (on p.gdtr) (Stands p) NoEnd g2 _ (stands_before p (faulted p f) g2 refl refl refl h))

still_turns : (p : Proc) → StepTurns p (begins p) (Done p)
still_turns p = turns_done (on p.gdtr) (Stands p) NoEnd (begins p) p (record { phase = (refl, λ n. n); gdtr = inl refl })

turn_turns : (m : Mode) (p : Proc) → StepTurns p (begins p) (turn_phrase m p)
turn_turns Running p = running_turns p
turn_turns Halted p = still_turns p
turn_turns Shutdown p = still_turns p

-- ---- a delivery

second_stands : (p : Proc) (g : Stage) (after : Proc) (e : Option Event) → Stands p g after → Stands p g (behind_second after e)
second_stands p g after (Some e) s = stands_alike p p after (behind_second after (Some e)) g refl refl refl refl s
second_stands p g after None s = stands_alike p p after (behind_second after None) g refl refl refl refl s

met_stands : (p : Proc) (g : Stage) (e : Event) (after : Proc) (fault : Option Fault) → Stands p g after → Stands p g (behind_met e after fault)
met_stands p g e after (Some f) s = second_stands p g after (second_of e f) s
met_stands p g e after None s = s

-- where a delivery ends, but for the fault that was met on the way
abbrev LeavesAt : Proc → Stage → RanRecord → Type 0
LeavesAt p g r = Stands p g r.after

-- a state stands in the phase in which one did of which it keeps TR and NT
remains_stands : (p q after : Proc) (g g2 : Stage) → q.gdtr ≡ p.gdtr → EndsIn q g.phase → g2.phase ≡ g.phase → Stays q after → Stands p g2 after
remains_stands p q after g g2 d h e k = record { phase = subst (EndsIn after) (sym e) (ends_alike q after g.phase (ap task_of k.tr) k.nested h); gdtr = inl (k.gdtr ∙ d) }

-- the push of an error code in a new task
pushed_stays : (gdt : TableReg) (q : Proc) (value : ℕ) → Plain 2 (Ordinary gdt) (λ us after. Stays q after) [] (pushed_on_phrase q value)
unfolding pushed_on_phrase
pushed_stays gdt q value =
    push_then gdt 2 (λ us after. Stays q after) [] (own_stack q) 4 value _ refl
    (λ us st. plain_done 0 (Ordinary gdt) (λ vs after. Stays q after) us _ (stays_pointer q (with_segment q ss st.ss) st (stays_segment q q ss st.ss (stays_same q))))

code_turns : (p q : Proc) (g : Stage) (code : Option ℕ) → q.gdtr ≡ p.gdtr → EndsIn q g.phase → Turns (on p.gdtr) (LeavesAt p) NoEnd g (with_code_phrase q code)
code_turns p q g None d h = turns_done (on p.gdtr) (LeavesAt p) NoEnd g _ (remains_stands p q q g g d h refl (stays_same q))
code_turns p q g (Some code) d h =
    turns_either (on p.gdtr) (λ g2 after. (g2.phase ≡ g.phase) × Stays q after) (LeavesAt p) (λ g2 f. g2.phase ≡ g.phase) NoEnd g (pushed_on_phrase q code) _ _
    (remaining_turns 2 p.gdtr (Stays q) g.phase [] g (pushed_on_phrase q code) refl (λ a b w. absurd w) (pushed_stays p.gdtr q code))
    (λ after g2 k. turns_done (on p.gdtr) (LeavesAt p) NoEnd g2 _ (remains_stands p q after g g2 d h k.0 k.1))
    (λ f g2 e. turns_done (on p.gdtr) (LeavesAt p) NoEnd g2 _ (remains_stands p q q g g2 d h e (stays_same q)))

behind_gate_turns : (p : Proc) (g : Stage) (code : Option ℕ) (x : Executed) → RanTo p g x → Turns (on p.gdtr) (LeavesAt p) NoEnd g (behind_gate_phrase code x)
behind_gate_turns p g code (Ran r) s = turns_done (on p.gdtr) (LeavesAt p) NoEnd g r s
behind_gate_turns p g code (Came r) l = go r.fail
  where
    go : (fail : Option Fail) → Turns (on p.gdtr) (LeavesAt p) NoEnd g (by_rows_phrase fail r.after code)
    go None = code_turns p r.after g code l.gdtr l.stands
    go (Some x) = turns_done (on p.gdtr) (LeavesAt p) NoEnd g _ (came_stands p p g r refl l)

delivery_turns : (p : Proc) (e : Event) → StepTurns p (begins p) (delivery_phrase p e)
unfolding delivery_phrase deliver_phrase met_phrase
delivery_turns p e =
    turns_then (on p.gdtr) (LeavesAt p) (Stands p) NoEnd (begins p) (deliver_phrase p e) _
    (turns_then (on p.gdtr) (RanTo p) (LeavesAt p) NoEnd (begins p) (met_phrase p e) _
    (turns_either (on p.gdtr) (RanTo p) (RanTo p) (StandsBefore p) NoEnd (begins p) (entered_phrase p e) _ _
    (tried_turns 117 p [] (begins p) (entered_phrase p e) (behind_none p (is_nested p) (begins p) refl (λ n. n)) (tried_entered p e))
    (λ x g2 s. turns_done (on p.gdtr) (RanTo p) NoEnd g2 x s)
    (λ f g2 h. turns_done (on p.gdtr) (RanTo p) NoEnd g2 _ (stands_before p p g2 refl refl refl h)))
    (λ x g2 s. behind_gate_turns p g2 e.code x s))
    (λ r g2 s. turns_done (on p.gdtr) (Stands p) NoEnd g2 _ (met_stands p g2 e r.after r.fault s))

-- a step from a state that differs in nothing of these laws
from_alike : (q p : Proc) (g : Stage) (t : Phrase Proc) → q.gdtr ≡ p.gdtr → Turns (on q.gdtr) (Stands q) NoEnd g t → StepTurns p g t
from_alike q p g t d h =
    turns_weaken (on p.gdtr) (Stands q) (Stands p) NoEnd g t (λ after g2 s. stands_alike q p after after g2 (sym d) refl refl refl s) (subst (λ gdt. Turns (on gdt) (Stands q) NoEnd g t) d h)

taken_turns : (taken : Option Event) (e : Event) (p : Proc) → StepTurns p (begins p) (delivery_phrase (at_delivery_of taken p) e)
taken_turns (Some x) e p = from_alike (at_delivery_of (Some x) p) p (begins p) _ refl (delivery_turns (at_delivery_of (Some x) p) e)
taken_turns None e p = from_alike (at_delivery_of None p) p (begins p) _ refl (delivery_turns (at_delivery_of None p) e)

event_turns : (e : Option Event) (p : Proc) → StepTurns p (begins p) (event_or_turn e p)
event_turns (Some e) p = taken_turns p.pending e p
event_turns None p = from_alike (record p { shadow = false }) p (begins p) _ refl (turn_turns p.mode (record p { shadow = false }))

start_turns : (p : Proc) (selector : ℕ) → StepTurns p (begins p) (start_phrase p selector)
unfolding start_phrase KeepsToStages
start_turns p selector =
    let begun : Proc = without_start p in
    turns_then (on p.gdtr) (Left begun) (Stands p) NoEnd (begins p) (switch_phrase begun Start selector false false) _
    (turns_soundly (on p.gdtr) (Left begun) NoEnd (begins p) _ (switch_keeps begun Start selector false false tt))
    (λ r g2 l. turns_done (on p.gdtr) (Stands p) NoEnd g2 _ (started_stands p begun g2 r refl l))

begun_turns : (start : Option ℕ) (p : Proc) → StepTurns p (begins p) (start_or_event start p)
begun_turns (Some selector) p = start_turns p selector
begun_turns None p = event_turns (due p) p

-- The law of a step, of the machine as it stands.
pub step_keeps : StepLaw step_phrase
unfolding step_phrase
step_keeps p = begun_turns p.start p

-- Whole cycles of a step are turns.
pub step_path : (p after : Proc) (ts : List Ask) → follow (step_phrase p) ts ≡ Whole after [] → (g : Stage) × Path p.gdtr (begins p) ts g × Stands p g after
step_path p after ts e = turns_whole p.gdtr (Stands p) NoEnd (begins p) (step_phrase p) after ts (step_keeps p) e
