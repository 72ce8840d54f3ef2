-- What deliveries and returns from handlers owe.
use Rattle.std.proofs.Common.{◌≡◌, ℕ, zero, suc, arith, ◌+◌, ◌-◌, ◌*◌, ◌%◌, ◌^◌, ◌||◌, ◌∙◌, cond, refl, sym, inl, List, [], ◌∷◌, length, Bool, true, false, Option, Some, None}
use Rattle.m386_base.specs.declared.ask.Ask.{Ask}
use Rattle.m386_base.specs.declared.ask.Role.TheVariants as roles
use Rattle.m386_base.specs.declared.desc.Desc.{Desc}
use Rattle.m386_base.specs.declared.fault.Fault.{Fault}
use Rattle.m386_base.specs.declared.flags.Flag.TheVariants as flags
use Rattle.m386_base.specs.declared.number.Width.{Width}
use Rattle.m386_base.specs.Bus.{cycle_of}
use Rattle.m386_base.specs.Exceptions.{vector_of}
use Rattle.m386_base.specs.declared.exception.Exception.TheVariants as exceptions
use Rattle.m386_base.specs.Flags.{has_flag}
use Rattle.m386_base.specs.Phrase.{Phrase, Done, Faults, Asks, Begins, ◌>>=◌}
use Rattle.m386_base.specs.Plain.{Plain}
use Rattle.m386_base.proofs.Plain.{plain_done, plain_either, plain_ends, plain_if, plain_then}
use Rattle.m386_checks.specs.declared.facts.Fail.{Fail}
use Rattle.m386_desc.specs.Access.{kind_of}
use Rattle.m386_desc.specs.Selector.{is_in_table}
use Rattle.m386_opmap.specs.declared.op.Op.{Op}
use Rattle.m386_state.specs.declared.event.Event.{Event}
use Rattle.m386_state.specs.declared.proc.Proc.{Proc}
use Rattle.m386_state.specs.declared.segment.TableReg.{TableReg}
use Rattle.m386_state.specs.Start.{cpl_of}
use Rattle.m386_access.specs.Ordinary.{Ordinary, Keeps, PlainFrom, has_nested, is_nested, popped}
use Rattle.m386_access.proofs.Phrases.{Anything, Stays, keeps_stays, stays_same}
use Rattle.m386_access.proofs.Popped.{Popped, keeps_popped}
use Rattle.m386_segload.specs.Descriptors.{descriptor_phrase}
use Rattle.m386_segload.specs.Rules.{first_broken, need, event_gate_rules, target_rules}
use Rattle.m386_segload.proofs.Loads.{GotDesc, plain_descriptor, plain_need, take_then}
use Rattle.m386_stack.specs.declared.stack.Stack.{Stack}
use Rattle.m386_stack.specs.Names.{size_of}
use Rattle.m386_stack.specs.Stack.{moved, own_stack}
use Rattle.m386_stack.proofs.Images.{pop_flags_then, popped_nested, is_length}
use Rattle.m386_stack.proofs.Pushed.{pop_then, push_then, pushes_then}
use Rattle.m386_transfer.specs.declared.executed.Executed.{Executed}
use Rattle.m386_transfer.specs.declared.executed.Executed.TheVariants.{Ran, Came}
use Rattle.m386_transfer.specs.declared.place.Target.{Target}
use Rattle.m386_transfer.specs.Executed.{simply, switching_phrase}
use Rattle.m386_transfer.specs.Gate.{gate_of}
use Rattle.m386_transfer.specs.Place.{level_of, target_fault}
use Rattle.m386_transfer.specs.Tried.{AreReads, KeepsRun, Tried, TriedFrom}
use Rattle.m386_transfer.proofs.Plain.{return_then, stack_for_then, stays_placed}
use Rattle.m386_transfer.proofs.Tried.{ReadsAlone, descriptor_alone, reads_done, reads_faults, reads_since, reads_then, tried_bind, tried_done, tried_faults, tried_if, tried_simply, tried_switch, tried_within}
use Rattle.m386_deliver.specs.Deliver.{gate_target, frame_of, entered, framed_phrase, pushed_phrase, through_phrase, gate_brief, leads_to_task, by_gate_phrase, entered_phrase, pushed_on_phrase, with_code_phrase, by_rows_phrase, behind_gate_phrase}
use Rattle.m386_deliver.specs.Exec.{asked_for, handler_work_of, on_overflow_phrase, work_phrase, exec_phrase}
use Rattle.m386_deliver.specs.Gate.{is_from_outside, gate_candidate, entry_phrase, gate_phrase}
use Rattle.m386_deliver.specs.Iret.{behind_image_phrase, image_phrase, handler_left_phrase, back_brief, returned_phrase}
use Rattle.m386_deliver.specs.declared.exec.HandlerWork.{HandlerWork}
use Rattle.m386_deliver.specs.declared.exec.HandlerWork.TheVariants.{Enter, EnterOnOverflow, Leave}
use Rattle.m386_deliver.proofs.Frames.{frame_is_short, handler_nested}

plain_entry : (p : Proc) (ts : List Ask) (vector : ℕ) → Plain 4 (Ordinary p.gdtr) Anything ts (entry_phrase p vector)
unfolding entry_phrase
plain_entry p ts vector =
    let at = (p.idtr.base + vector * 8) % 2 ^ 32 in
    plain_if 4 (Ordinary p.gdtr) Anything ts (is_in_table (vector * 8) p.idtr.limit) _ _
    (plain_then 4 0 (Ordinary p.gdtr) (GotDesc at) Anything ts (descriptor_phrase roles.Idt at) _ (plain_descriptor p.gdtr ts roles.Idt at refl) (λ us d h. plain_done 0 (Ordinary p.gdtr) Anything us _ tt))
    (plain_done 4 (Ordinary p.gdtr) Anything ts None tt)

plain_gate : (p : Proc) (ts : List Ask) (e : Event) → Plain 4 (Ordinary p.gdtr) Anything ts (gate_phrase p e)
unfolding gate_phrase
plain_gate p ts e =
    plain_then 4 0 (Ordinary p.gdtr) Anything Anything ts (entry_phrase p e.vector) _ (plain_entry p ts e.vector)
    (λ us found x. plain_need p.gdtr 0 Anything us _ _ (plain_done 0 (Ordinary p.gdtr) Anything us _ tt))

not_nested : (b : Bool) → b ≡ false → b ≡ true → ⊥
not_nested true h k = absurd cc
not_nested false h k = absurd cc

keeps_entered : (p : Proc) (us : List Ask) (g : Desc) (t : Target) (st : Stack) → Keeps p us (entered p g t st)
unfolding entered
keeps_entered p us g t st =
    let s : Stays p _ = stays_placed p p t st (stays_same p) in
    record { tr = s.tr; gdtr = inl s.gdtr; nested = λ h. absurd (not_nested _ (handler_nested (kind_of g) p.eflags) h) }

plain_pushed : (p : Proc) (ts : List Ask) (e : Event) (g : Desc) (t : Target) (st : Stack) → Plain 12 (Ordinary p.gdtr) (Keeps p) ts (pushed_phrase p e g t st)
unfolding pushed_phrase framed_phrase
plain_pushed p ts e g t st =
    let vs : List ℕ = frame_of p t.level e.code in
    plain_need p.gdtr 12 (Keeps p) ts (target_fault t) _
    (pushes_then p.gdtr 12 (Keeps p) ts st 4 vs _ (frame_is_short p t.level e.code) (λ us top. plain_done (12 - length vs * 2) (Ordinary p.gdtr) (Keeps p) us _ (keeps_entered p us g t top)))

pub plain_through : (p : Proc) (ts : List Ask) (e : Event) (g : Desc) → Plain 26 (Ordinary p.gdtr) (Keeps p) ts (through_phrase p e g)
unfolding through_phrase
plain_through p ts e g =
    take_then p 26 (Keeps p) ts target_rules (cpl_of p) (is_from_outside e.cause) (gate_of g).selector _ refl refl (λ us d.
    stack_for_then p 21 (Keeps p) us (level_of p d) (is_from_outside e.cause) _ refl (λ vs st.
    plain_pushed p vs e g (gate_target p g d) st))

-- the gate is read, and nothing else
need_alone : (o : Option Fault) (t : Phrase Desc) → ReadsAlone t → ReadsAlone (need o t)
need_alone (Some x) t h = reads_faults Desc x
need_alone None t h = h

entry_alone : (p : Proc) (vector : ℕ) → ReadsAlone (entry_phrase p vector)
unfolding entry_phrase
entry_alone p vector = go (is_in_table (vector * 8) p.idtr.limit)
  where
    at : ℕ
    at = (p.idtr.base + vector * 8) % 2 ^ 32

    go : (b : Bool) → ReadsAlone (cond b (descriptor_phrase roles.Idt at >>= (λ d. Done (Some d))) (Done None))
    go true = reads_then _ _ (descriptor_alone roles.Idt at) (λ d. reads_done _)
    go false = reads_done None

gate_alone : (p : Proc) (e : Event) → ReadsAlone (gate_phrase p e)
unfolding gate_phrase
gate_alone p e = reads_then _ _ (entry_alone p e.vector) (λ found. need_alone (first_broken event_gate_rules (gate_candidate p e found)) _ (reads_done _))

-- by the type of the gate
by_gate_tried : (p : Proc) (us : List Ask) (e : Event) (g : Desc) → AreReads us → Tried 113 (Ordinary p.gdtr) (KeepsRun p) p us (by_gate_phrase p e g)
by_gate_tried p us e g r =
    tried_if 113 (Ordinary p.gdtr) (KeepsRun p) p us (leads_to_task (kind_of g)) _ _ (tried_switch 113 (Ordinary p.gdtr) (KeepsRun p) p (gate_brief e g) us refl (λ e. cc) (omega arith) r)
    (tried_simply 26 113 p us (through_phrase p e g) (omega arith) (plain_through p us e g))

-- An event through its gate: at most 117 cycles, ordinary ones or a switch behind reads.
pub tried_entered : (p : Proc) (e : Event) → TriedFrom 117 p (entered_phrase p e)
unfolding entered_phrase
tried_entered p e =
    tried_bind 4 117 (Ordinary p.gdtr) (λ us g. Anything us g × AreReads us) (KeepsRun p) p [] (gate_phrase p e) _ (omega arith)
    (reads_since 4 (Ordinary p.gdtr) Anything [] (gate_phrase p e) tt (gate_alone p e) (plain_gate p [] e))
    (λ us g h. by_gate_tried p us e g h.1)

-- The error code in a new task: at most two cycles, pushes.
plain_pushed_on : (gdt : TableReg) (p : Proc) (ts : List Ask) (value : ℕ) → Plain 2 (Ordinary gdt) Anything ts (pushed_on_phrase p value)
unfolding pushed_on_phrase
plain_pushed_on gdt p ts value = push_then gdt 2 Anything ts (own_stack p) 4 value _ refl (λ us st. plain_done 0 (Ordinary gdt) Anything us _ tt)

plain_with_code : (gdt : TableReg) (ts : List Ask) (p : Proc) (code : Option ℕ) → Plain 2 (Ordinary gdt) Anything ts (with_code_phrase p code)
plain_with_code gdt ts p None = plain_done 2 (Ordinary gdt) Anything ts _ tt
plain_with_code gdt ts p (Some code) =
    plain_either 2 0 (Ordinary gdt) Anything Anything ts (pushed_on_phrase p code) _ _ (plain_pushed_on gdt p ts code)
    (λ us after x. plain_done 0 (Ordinary gdt) Anything us _ tt) (λ us f. plain_done 0 (Ordinary gdt) Anything us _ tt)

pub plain_behind_gate : (gdt : TableReg) (ts : List Ask) (code : Option ℕ) (x : Executed) → Plain 2 (Ordinary gdt) Anything ts (behind_gate_phrase code x)
plain_behind_gate gdt ts code (Ran r) = plain_done 2 (Ordinary gdt) Anything ts r tt
plain_behind_gate gdt ts code (Came r) = go r.fail
  where
    go : (o : Option Fail) → Plain 2 (Ordinary gdt) Anything ts (by_rows_phrase o r.after code)
    go None = plain_with_code gdt ts r.after code
    go (Some x) = plain_done 2 (Ordinary gdt) Anything ts _ tt

-- What holds of the cycles before a phrase, and stays with each further one, holds at its end.
plain_since : {A : Type 0} (n : ℕ) (may : List Ask → Ask → Type 0) (ends : List Ask → A → Type 0) (H : List Ask → Type 0) → ((us : List Ask) (t : Ask) → H us → H (t ∷ us)) → (ts : List Ask) (t : Phrase A) → H ts → Plain n may ends ts t → Plain n may (λ us a. ends us a × H us) ts t
unfolding Plain
plain_since n may ends H stays ts (Done a) h p = (p, h)
plain_since n may ends H stays ts (Faults f) h p = tt
plain_since n may ends H stays ts (Begins m t) h p = absurd p
plain_since zero may ends H stays ts (Asks q k) h p = absurd p
plain_since (suc n) may ends H stays ts (Asks q k) h p = (p.0, λ v. plain_since n may ends H stays (cycle_of q v ∷ ts) (k v) (stays ts (cycle_of q v) h) (p.1 v))

or_right : (a b : Bool) → b ≡ true → (a || b) ≡ true
or_right true b h = refl
or_right false b h = h

popped_stays : (image : ℕ) (us : List Ask) (t : Ask) → Popped us image → Popped (t ∷ us) image
popped_stays image us t h = λ k. or_right _ (popped us) (h k)

-- TR and the GDT register as before, and NT as the image has it
record Flagged (p : Proc) (image : ℕ) (us : List Ask) (after : Proc) : Type 0 where
  tr : after.tr ≡ p.tr
  gdtr : after.gdtr ≡ p.gdtr
  nested : is_nested after ≡ has_nested image

flagged_behind_image : (p : Proc) (ts : List Ask) (selector eip image : ℕ) (st : Stack) (len : ℕ) → Plain 14 (Ordinary p.gdtr) (Flagged p image) ts (behind_image_phrase p selector eip image st len)
unfolding behind_image_phrase
flagged_behind_image p ts selector eip image st len =
    return_then p 14 (Flagged p image) ts selector eip st len 0 _ refl (λ us after s. plain_done 0 (Ordinary p.gdtr) (Flagged p image) us _ (record { tr = s.tr; gdtr = s.gdtr; nested = popped_nested p image }))

plain_behind_image : (p : Proc) (ts : List Ask) (selector eip image : ℕ) (st : Stack) (len : ℕ) → Popped ts image → Plain 14 (Ordinary p.gdtr) (Keeps p) ts (behind_image_phrase p selector eip image st len)
plain_behind_image p ts selector eip image st len h =
    plain_ends 14 (Ordinary p.gdtr) (λ us after. Flagged p image us after × Popped us image) (Keeps p) ts (behind_image_phrase p selector eip image st len)
    (λ us after s. keeps_popped p us after s.0.tr s.0.gdtr (λ k. s.1 (sym s.0.nested ∙ k)))
    (plain_since 14 (Ordinary p.gdtr) (Flagged p image) (λ us. Popped us image) (popped_stays image) ts (behind_image_phrase p selector eip image st len) h (flagged_behind_image p ts selector eip image st len))

plain_image : (p : Proc) (ts : List Ask) (selector eip : ℕ) (st : Stack) (w : Width) → Plain 16 (Ordinary p.gdtr) (Keeps p) ts (image_phrase p selector eip st (size_of w))
unfolding image_phrase
plain_image p ts selector eip st w = pop_flags_then p.gdtr 16 (Keeps p) ts st (size_of w) _ refl (is_length w) (λ us image h. plain_behind_image p us selector eip image (moved st (size_of w)) (size_of w) h)

plain_left : (p : Proc) (w : Width) → PlainFrom 20 p (handler_left_phrase p (size_of w))
unfolding handler_left_phrase
plain_left p w =
    let len = size_of w in
    pop_then p.gdtr 20 (Keeps p) [] roles.Pop (own_stack p) len _ refl refl (λ us eip.
    pop_then p.gdtr 18 (Keeps p) us roles.Pop (moved (own_stack p) len) len _ refl refl (λ vs selector.
    plain_image p vs (selector % 2 ^ 16) eip (moved (moved (own_stack p) len) len) w))

-- IRET: at most twenty cycles, each an ordinary one, or a switch.
pub tried_returned : (p : Proc) (w : Width) → TriedFrom 113 p (returned_phrase p w)
unfolding returned_phrase
tried_returned p w = go (has_flag flags.NestedTask p.eflags) refl
  where
    go : (b : Bool) → has_flag flags.NestedTask p.eflags ≡ b → TriedFrom 113 p (cond b (switching_phrase p back_brief) (simply (handler_left_phrase p (size_of w))))
    go true nested = tried_switch 113 (Ordinary p.gdtr) (KeepsRun p) p back_brief [] refl (λ _. nested) (omega arith) tt
    go false nested = tried_simply 20 113 p [] (handler_left_phrase p (size_of w)) (omega arith) (plain_left p w)

on_overflow_tried : (p : Proc) → TriedFrom 117 p (on_overflow_phrase p)
unfolding on_overflow_phrase
on_overflow_tried p =
    tried_if 117 (Ordinary p.gdtr) (KeepsRun p) p [] (has_flag flags.Overflow p.eflags) _ _ (tried_entered p (asked_for (vector_of exceptions.Overflow)))
    (tried_done 117 (Ordinary p.gdtr) (KeepsRun p) p [] _ (keeps_stays p [] p (stays_same p)))

-- each kind of work, one line
work_tried : (work : Option HandlerWork) (w : Width) (p : Proc) → TriedFrom 117 p (work_phrase work w p)
work_tried (Some (Enter vector)) w p = tried_entered p (asked_for vector)
work_tried (Some EnterOnOverflow) w p = on_overflow_tried p
work_tried (Some Leave) w p = tried_within 113 117 (Ordinary p.gdtr) (KeepsRun p) p [] _ (omega arith) (tried_returned p w)
work_tried None w p = tried_faults 117 (Ordinary p.gdtr) (KeepsRun p) p [] _

pub exec_tried : (op : Op) (p : Proc) → TriedFrom 117 p (exec_phrase op p)
unfolding exec_phrase
exec_tried op p = work_tried (handler_work_of op.name op.args.items) op.width p
