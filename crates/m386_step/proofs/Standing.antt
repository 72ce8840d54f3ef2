-- Where attempts at a task switch stand in a step: behind reads that are none of a switch, and one at most.
use Rattle.std.proofs.Common.{◌≡◌, ℕ, zero, suc, ◌+◌, ◌++◌, ◌%◌, ◌^◌, ◌&&◌, List, [], ◌∷◌, refl, sym, ◌∙◌, ap, subst, append_assoc, Bool, true, false, cond, not, Option, Some, None, inl, inr}
use Rattle.std.specs.List.{AllByRecursion}
use Rattle.std.proofs.lemmas.Bool.{and_parts}
use Rattle.m386_base.specs.declared.ask.Ask.{Ask}
use Rattle.m386_base.specs.declared.ask.Role.{Role}
use Rattle.m386_base.specs.declared.ask.Role.TheVariants as roles
use Rattle.m386_base.specs.declared.fault.Fault.{Fault}
use Rattle.m386_base.specs.declared.kind.SwitchKind.TheVariants as switches
use Rattle.m386_base.specs.Bus.{cycle_of}
use Rattle.m386_base.specs.Laws.{attempts}
use Rattle.m386_base.specs.Phrase.{Phrase, Done, Faults, Asks, Begins, Attempt, ◌>>=◌, either, follow, Whole, Wrong, matches, answer_of}
use Rattle.m386_base.specs.Plain.{Plain}
use Rattle.m386_base.proofs.Matched.{cycle_matched}
use Rattle.m386_opmap.specs.declared.op.Op.{Op}
use Rattle.m386_state.specs.declared.event.Event.{Event}
use Rattle.m386_state.specs.declared.proc.Mode.{Mode}
use Rattle.m386_state.specs.declared.proc.Mode.TheVariants.{Running, Halted, Shutdown}
use Rattle.m386_state.specs.declared.proc.Proc.{Proc}
use Rattle.m386_state.specs.declared.segment.TableReg.{TableReg}
use Rattle.m386_access.specs.After.{at_eip}
use Rattle.m386_access.specs.Ordinary.{Ordinary, Reads, Writes, Accesses, Keeps, is_read_role, is_write_role}
use Rattle.m386_base.specs.declared.desc.Desc.{Desc}
use Rattle.m386_desc.specs.Access.{kind_of}
use Rattle.m386_deliver.specs.Deliver.{through_phrase, gate_brief, leads_to_task, entered_phrase, met_phrase, deliver_phrase}
use Rattle.m386_deliver.specs.Gate.{gate_phrase}
use Rattle.m386_deliver.proofs.Plain.{plain_through}
use Rattle.m386_switch.specs.declared.outcome.Switched.{Switched}
use Rattle.m386_switch.specs.Attempts.{Outside, is_of_a_switch}
use Rattle.m386_switch.specs.Ends.{EndsAs}
use Rattle.m386_switch.specs.Seen.{Seen, note, nothing_seen}
use Rattle.m386_switch.specs.Switch.{attempt_of, switch_phrase, work_phrase}
use Rattle.m386_switch.proofs.Attempts.{no_cycle_outside}
use Rattle.m386_switch.proofs.Shows.{Shows}
use Rattle.m386_switch.proofs.Whole.{work_shows}
use Rattle.m386_system.specs.Claims.{MayClaim}
use Rattle.m386_transfer.specs.declared.executed.Executed.{Executed}
use Rattle.m386_transfer.specs.Executed.{simply, came_whole, switching_phrase}
use Rattle.m386_transfer.specs.Tried.{AreReads, IsSwitching, Tried}
use Rattle.m386_step.specs.Code.{decode_phrase}
use Rattle.m386_step.specs.Events.{due, at_delivery, delivery_phrase}
use Rattle.m386_step.specs.Fetch.{first_reader}
use Rattle.m386_step.specs.Instruction.{behind_operation, operation_phrase, decoded_phrase, instruction_phrase}
use Rattle.m386_step.specs.Settled.{faulted, behind_start}
use Rattle.m386_step.specs.Step.{without_start, start_phrase, running_phrase, turn_phrase, event_or_turn, start_or_event, step_phrase}
use Rattle.m386_step.specs.StepEnds.{IsBehindReads}
use Rattle.m386_step.proofs.Ordinary.{KeepsUnclaimed, lawful_operation}
use Rattle.m386_step.proofs.StepAttempts.{Looks, looks_decode, looks_gate, NoneBegins, by_type, task_none, whole_delivery, whole_instruction}

-- Where b says that reads alone were made, an attempt begins behind reads alone, no cycle before it is one of a switch, and none
-- begins in its midst.
unfoldable Tidy : {A : Type 0} → Bool → Phrase A → Type 0
Tidy b (Done a) = Unit {0}
Tidy b (Faults f) = Unit {0}
Tidy b (Begins m t) = (b ≡ true) × NoneBegins t
Tidy b (Asks q k) = (is_of_a_switch q.role ≡ false) × ((v : ℕ) → Tidy (b && not q.write) (k v))

none_begins : {A : Type 0} (t : Phrase A) (ts : List Ask) → NoneBegins t → attempts t ts ≡ []
unfolding NoneBegins attempts
none_begins (Done a) ts h = refl
none_begins (Faults f) ts h = refl
none_begins (Begins m t) ts h = absurd h
none_begins (Asks q k) [] h = refl
none_begins (Asks q k) (t ∷ ts) h = none_begins (k (answer_of t)) ts (h (answer_of t))

abbrev IsLook : Ask → Type 0
IsLook t = (t.write ≡ false) × (is_of_a_switch t.role ≡ false)

all_one_more : (pre : List Ask) (t : Ask) → AllByRecursion IsLook pre → IsLook t → AllByRecursion IsLook (pre ++ t ∷ [])
all_one_more [] t h l = (l, tt)
all_one_more (x ∷ pre) t h l = (h.0, all_one_more pre t h.1 l)

-- a cycle is a read and has the role of its ask
same_write : (q : Ask) (v : ℕ) → (cycle_of q v).write ≡ q.write
unfolding cycle_of
same_write q v = go q.write
  where
    go : (b : Bool) → (cond b q (record q { value = v })).write ≡ q.write
    go true = refl
    go false = refl

same_role : (q : Ask) (v : ℕ) → (cycle_of q v).role ≡ q.role
unfolding cycle_of
same_role q v = go q.write
  where
    go : (b : Bool) → (cond b q (record q { value = v })).role ≡ q.role
    go true = refl
    go false = refl

look_made : (q t : Ask) → matches q t ≡ true → q.write ≡ false → is_of_a_switch q.role ≡ false → IsLook t
look_made q t m w r =
    let v : ℕ = answer_of t in
    subst IsLook (cycle_matched q t m) (same_write q v ∙ w, ap is_of_a_switch (same_role q v) ∙ r)

not_true : (b : Bool) → not b ≡ true → b ≡ false
not_true true h = cc
not_true false h = refl

-- Attempts of whole cycles stand behind those that were made before.
stand : {A : Type 0} (b : Bool) (pre : List Ask) (t : Phrase A) (ts : List Ask) (a : A) → (b ≡ true → AllByRecursion IsLook pre) → Tidy b t → follow t ts ≡ Whole a [] → AllByRecursion (λ (x : Attempt × List Ask). IsBehindReads (pre ++ ts) x.1) (attempts t ts)
unfolding Tidy attempts follow
stand b pre (Done c) ts a r h e = tt
stand b pre (Faults f) ts a r h e = tt
stand b pre (Begins m t) ts a r h e =
    (record { before = pre; joined = refl; reads = r h.0 }, subst (λ xs. AllByRecursion (λ (x : Attempt × List Ask). IsBehindReads (pre ++ ts) x.1) xs) (sym (none_begins t ts h.1)) tt)
stand b pre (Asks q k) [] a r h e = tt
stand {A = A} b pre (Asks q k) (t ∷ ts) a r h e = go (matches q t) refl (λ looked. stand (b && not q.write) (pre ++ t ∷ []) (k (answer_of t)) ts a looked (h.1 (answer_of t)))
  where
    go : (c : Bool) → matches q t ≡ c → (((b && not q.write) ≡ true → AllByRecursion IsLook (pre ++ t ∷ [])) → follow (k (answer_of t)) ts ≡ Whole a [] → AllByRecursion (λ (x : Attempt × List Ask). IsBehindReads ((pre ++ t ∷ []) ++ ts) x.1) (attempts (k (answer_of t)) ts))
        → AllByRecursion (λ (x : Attempt × List Ask). IsBehindReads (pre ++ t ∷ ts) x.1) (attempts (k (answer_of t)) ts)
    go true f ih =
        subst (λ us. AllByRecursion (λ (x : Attempt × List Ask). IsBehindReads us x.1) (attempts (k (answer_of t)) ts)) (append_assoc pre (t ∷ []) ts)
        (ih (λ n. let p = and_parts b (not q.write) n in all_one_more pre t (r p.0) (look_made q t f (not_true q.write p.1) h.0)) (rw f at e))
    go false f ih = let d : Wrong ≡ Whole a [] = rw f at e in cc

tidy_outside : {A : Type 0} (b : Bool) (t : Phrase A) → Tidy b t → Outside t
unfolding Tidy Outside
tidy_outside b (Done a) h = tt
tidy_outside b (Faults f) h = tt
tidy_outside b (Begins m t) h = tt
tidy_outside b (Asks q k) h = (h.0, λ v. tidy_outside (b && not q.write) (k v) (h.1 v))

-- the work of a switch
switch_none : {B : Type 0} (P : Seen → Switched → Type 0) (g : Seen) (x : Phrase Switched) (w : Executed → B) (caught : Fault → Phrase B) → Shows P g x → NoneBegins (either ((x >>= came_whole) >>= (λ e. Done (w e))) Done caught)
unfolding Shows NoneBegins ◌>>=◌ either
switch_none P g (Done r) w caught h = tt
switch_none P g (Faults f) w caught h = absurd h
switch_none P g (Begins m t) w caught h = absurd h
switch_none P g (Asks q k) w caught h = λ v. switch_none P (note g (cycle_of q v)) (k v) w caught (h v)

start_none : (P : Seen → Switched → Type 0) (g : Seen) (x : Phrase Switched) (w : Switched → Proc) → Shows P g x → NoneBegins (x >>= (λ r. Done (w r)))
unfolding Shows NoneBegins ◌>>=◌
start_none P g (Done r) w h = tt
start_none P g (Faults f) w h = absurd h
start_none P g (Begins m t) w h = absurd h
start_none P g (Asks q k) w h = λ v. start_none P (note g (cycle_of q v)) (k v) w (h v)

switching_none : (p before : Proc) (op : Op) (m : Attempt) (t : Phrase Executed) → IsSwitching p m t → NoneBegins (whole_instruction op before t)
switching_none p before op m t i =
    let b = i.brief in
    let known : Attempt = attempt_of p b.kind b.selector b.direct b.ext in
    let R : Phrase Executed → Type 0 = λ u. NoneBegins (whole_instruction op before u) in
    subst R (sym i.work) (switch_none (λ g r. EndsAs known g p r) nothing_seen (work_phrase p b.kind b.selector b.direct b.ext) (behind_operation op before) (λ f. Done (faulted before f)) (work_shows p b.kind b.selector b.direct b.ext))

-- roles of ordinary operations are none of a switch
reads_no_switch : (role : Role) → is_read_role role ≡ true → is_of_a_switch role ≡ false
reads_no_switch roles.Tss h = cc
reads_no_switch roles.ClaimJmp h = cc
reads_no_switch roles.ClaimCall h = cc
reads_no_switch roles.ClaimStart h = cc
reads_no_switch roles.Save h = cc
reads_no_switch roles.Link h = cc
reads_no_switch roles.Back h = cc
reads_no_switch roles.RelJmp h = cc
reads_no_switch roles.RelRet h = cc
reads_no_switch roles.Load h = cc
reads_no_switch _ h = refl

writes_no_switch : (role : Role) → is_write_role role ≡ true → is_of_a_switch role ≡ false
writes_no_switch roles.Operand h = refl
writes_no_switch roles.Push h = refl
writes_no_switch roles.LdtAcc h = refl
writes_no_switch _ h = cc

ordinary_no_switch : (gdt : TableReg) (us : List Ask) (q : Ask) → Ordinary gdt us q → is_of_a_switch q.role ≡ false
ordinary_no_switch gdt us q (Reads w r j) = reads_no_switch q.role r
ordinary_no_switch gdt us q (Writes w r j) = writes_no_switch q.role r
ordinary_no_switch gdt us q (Accesses selector b n was s i) = rw i.role refl

claims_no_switch : (gdt : TableReg) (us : List Ask) (q : Ask) → MayClaim gdt us q → is_of_a_switch q.role ≡ false
claims_no_switch gdt us q (inl o) = ordinary_no_switch gdt us q o
claims_no_switch gdt us q (inr c) = rw c.1 refl

both : (a b : Bool) → a ≡ true → b ≡ true → (a && b) ≡ true
both true b h k = k
both false b h k = cc

tried_tidy : (n : ℕ) (p before : Proc) (op : Op) (b : Bool) (us : List Ask) (t : Phrase Executed) → (AreReads us → b ≡ true) → Tried n (MayClaim p.gdtr) (KeepsUnclaimed p) p us t → Tidy b (whole_instruction op before t)
unfolding Tried Tidy ◌>>=◌ either
tried_tidy n p before op b us (Done e) r h = tt
tried_tidy n p before op b us (Faults f) r h = tt
tried_tidy n p before op b us (Begins m t) r h = (r h.1, switching_none p before op m t h.2)
tried_tidy zero p before op b us (Asks q k) r h = absurd h
tried_tidy (suc n) p before op b us (Asks q k) r h =
    (claims_no_switch p.gdtr us q h.0, λ v. tried_tidy n p before op (b && not q.write) (cycle_of q v ∷ us) (k v) (λ reads. both b (not q.write) (r reads.1) (ap not (sym (same_write q v) ∙ reads.0))) (h.1 v))

front_tidy : {A : Type 0} (t : Phrase A) (f : A → Phrase Proc) (caught : Fault → Phrase Proc) → Looks t → ((a : A) → Tidy true (either (f a) Done caught)) → ((x : Fault) → Tidy true (caught x)) → Tidy true (either (t >>= f) Done caught)
unfolding Looks Tidy ◌>>=◌ either
front_tidy (Done a) f caught h k l = k a
front_tidy (Faults x) f caught h k l = l x
front_tidy (Begins m t) f caught h k l = absurd h
front_tidy (Asks q c) f caught h k l = (h.1, λ v. rw h.0 (front_tidy (c v) f caught (h.2 v) k l))

tidy_done : {A : Type 0} (b : Bool) (a : A) → Tidy b (Done a)
unfolding Tidy
tidy_done b a = tt

running_tidy : (p : Proc) → Tidy true (running_phrase p)
unfolding running_phrase instruction_phrase decoded_phrase
running_tidy p =
    front_tidy (decode_phrase (first_reader p)) _ _ (looks_decode (first_reader p))
    (λ d.
    let begun : Proc = at_eip p ((p.eip + d.len) % 2 ^ 32) in
    tried_tidy 160 begun p d.op true [] (operation_phrase d.op begun) (λ r. refl) (lawful_operation d.op begun))
    (λ f. tidy_done true _)

turn_tidy : (m : Mode) (p : Proc) → Tidy true (turn_phrase m p)
turn_tidy Running p = running_tidy p
turn_tidy Halted p = tidy_done true p
turn_tidy Shutdown p = tidy_done true p

-- a delivery: its gate, and a task or a handler
gate_tidy : {A : Type 0} (p : Proc) (e : Event) (t : Phrase A) (f : A → Phrase Executed) → Looks t → ((a : A) → Tidy true (whole_delivery p e (f a))) → Tidy true (whole_delivery p e (t >>= f))
unfolding Looks Tidy ◌>>=◌ either
gate_tidy p e (Done a) f h k = k a
gate_tidy p e (Faults x) f h k = tt
gate_tidy p e (Begins m t) f h k = absurd h
gate_tidy p e (Asks q c) f h k = (h.1, λ v. rw h.0 (gate_tidy p e (c v) f (h.2 v) k))

handler_tidy : (n : ℕ) (gdt : TableReg) (ends : List Ask → Proc → Type 0) (b : Bool) (us : List Ask) (p : Proc) (e : Event) (t : Phrase Proc) → Plain n (Ordinary gdt) ends us t → Tidy b (whole_delivery p e (simply t))
unfolding Plain Tidy simply ◌>>=◌ either
handler_tidy n gdt ends b us p e (Done a) h = tt
handler_tidy n gdt ends b us p e (Faults f) h = tt
handler_tidy n gdt ends b us p e (Begins m t) h = absurd h
handler_tidy zero gdt ends b us p e (Asks q k) h = absurd h
handler_tidy (suc n) gdt ends b us p e (Asks q k) h = (ordinary_no_switch gdt us q h.0, λ v. handler_tidy n gdt ends (b && not q.write) (cycle_of q v ∷ us) p e (k v) (h.1 v))

task_tidy : (p : Proc) (e : Event) (g : Desc) → Tidy true (whole_delivery p e (switching_phrase p (gate_brief e g)))
unfolding Tidy switching_phrase switch_phrase ◌>>=◌ either
task_tidy p e g =
    let b = gate_brief e g in
    (refl, task_none (λ g r. EndsAs (attempt_of p b.kind b.selector b.direct b.ext) g p r) nothing_seen (work_phrase p b.kind b.selector b.direct b.ext) p e (work_shows p b.kind b.selector b.direct b.ext))

delivery_tidy : (p : Proc) (e : Event) → Tidy true (delivery_phrase p e)
unfolding delivery_phrase deliver_phrase met_phrase entered_phrase
delivery_tidy p e =
    gate_tidy p e (gate_phrase p e) _ (looks_gate p e)
    (λ g. by_type (λ t. Tidy true (whole_delivery p e t)) (leads_to_task (kind_of g)) _ _ (task_tidy p e g) (handler_tidy 26 p.gdtr (Keeps p) true [] p e (through_phrase p e g) (plain_through p [] e g)))

event_tidy : (e : Option Event) (p : Proc) → Tidy true (event_or_turn e p)
event_tidy (Some e) p = delivery_tidy (at_delivery p) e
event_tidy None p = turn_tidy p.mode (record p { shadow = false })

begun_tidy : (start : Option ℕ) (p : Proc) → Tidy true (start_or_event start p)
unfolding start_phrase switch_phrase Tidy ◌>>=◌
begun_tidy (Some selector) p =
    let begun : Proc = without_start p in
    (refl, start_none (λ g r. EndsAs (attempt_of begun switches.Start selector false false) g begun r) nothing_seen (work_phrase begun switches.Start selector false false) (behind_start begun) (work_shows begun switches.Start selector false false))
begun_tidy None p = event_tidy (due p) p

step_tidy : (p : Proc) → Tidy true (step_phrase p)
unfolding step_phrase
step_tidy p = begun_tidy p.start p

-- Each attempt of a whole step stands behind reads.
pub attempts_stand : (s s2 : Proc) (ts : List Ask) → follow (step_phrase s) ts ≡ Whole s2 [] → AllByRecursion (λ (x : Attempt × List Ask). IsBehindReads ts x.1) (attempts (step_phrase s) ts)
attempts_stand s s2 ts e = stand true [] (step_phrase s) ts s2 (λ h. tt) (step_tidy s) e

pub outside_step : (s : Proc) → Outside (step_phrase s)
outside_step s = tidy_outside true (step_phrase s) (step_tidy s)

-- Without an attempt there is no cycle of a switch.
pub none_outside : (s s2 : Proc) (ts : List Ask) → follow (step_phrase s) ts ≡ Whole s2 [] → attempts (step_phrase s) ts ≡ [] → AllByRecursion (λ (t : Ask). is_of_a_switch t.role ≡ false) ts
none_outside s s2 ts e n = no_cycle_outside (step_phrase s) ts s2 (outside_step s) e n
