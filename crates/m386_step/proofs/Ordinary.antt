-- What follows for each operation from the law that it owes.
use Rattle.std.proofs.Common.{◌≡◌, ◌≤◌, ℕ, zero, suc, List, [], ◌∷◌, refl, sym, subst, inl, inr, arith, Bool, true, false, cond, ◌==◌, nat_le, Some}
use Rattle.m386_base.specs.declared.ask.Ask.{Ask}
use Rattle.m386_base.specs.declared.ask.Role.{Role}
use Rattle.m386_base.specs.declared.ask.Role.TheVariants.{Fetch}
use Rattle.m386_base.specs.Bus.{cycle_of}
use Rattle.m386_base.specs.Laws.{AtMost}
use Rattle.m386_base.specs.declared.fault.Fault.{Fault}
use Rattle.m386_base.specs.Phrase.{Phrase, Done, Faults, Asks, Begins, ◌>>=◌, either, role_number}
use Rattle.m386_opmap.specs.declared.op.Op.{Op}
use Rattle.m386_state.specs.declared.event.Event.{Event}
use Rattle.m386_state.specs.declared.proc.Proc.{Proc}
use Rattle.m386_state.specs.declared.segment.TableReg.{TableReg}
use Rattle.m386_access.specs.Ran.{ran}
use Rattle.m386_access.specs.Ordinary.{Ordinary, Reads, Writes, Accesses, is_read_role, is_write_role, PlainFrom}
use Rattle.m386_base.specs.Plain.{Plain}
use Rattle.m386_access.proofs.Phrases.{Anything}
use Rattle.m386_base.specs.declared.kind.SwitchKind.TheVariants.{Start}
use Rattle.m386_base.proofs.Bounds.{at_most_either, at_most_then}
use Rattle.m386_base.proofs.Plain.{plain_at_most, plain_within}
use Rattle.m386_data.proofs.Plain as data_laws
use Rattle.m386_data.specs.Exec as data_specs
use Rattle.m386_deliver.proofs.Plain as deliver_laws
use Rattle.m386_deliver.proofs.Plain.{tried_entered, plain_behind_gate}
use Rattle.m386_deliver.specs.Deliver.{entered_phrase, behind_gate_phrase, met_phrase, deliver_phrase}
use Rattle.m386_deliver.specs.Exec as deliver_specs
use Rattle.m386_gates.proofs.Plain as gates_laws
use Rattle.m386_gates.specs.Exec as gates_specs
use Rattle.m386_iomap.proofs.Plain as ports_laws
use Rattle.m386_iomap.specs.Exec as ports_specs
use Rattle.m386_segments.proofs.Plain as segments_laws
use Rattle.m386_segments.specs.Exec as segments_specs
use Rattle.m386_stack.proofs.Plain as stack_laws
use Rattle.m386_stack.specs.Exec as stack_specs
use Rattle.m386_string.proofs.Plain as string_laws
use Rattle.m386_string.specs.Exec as string_specs
use Rattle.m386_switch.specs.Switch.{switch_phrase, work_phrase}
use Rattle.m386_system.proofs.Claims.{exec_claims}
use Rattle.m386_system.specs.Claims.{MayClaim, KeepsButClaimed}
use Rattle.m386_system.specs.Exec as system_specs
use Rattle.m386_transfer.specs.declared.executed.Executed.{Executed}
use Rattle.m386_transfer.specs.declared.executed.Executed.TheVariants.{Ran, Came}
use Rattle.m386_transfer.specs.Executed.{simply, ran_whole, came_whole}
use Rattle.m386_transfer.specs.Tried.{Tried, TriedFrom, KeepsRun, switch_bound}
use Rattle.m386_transfer.proofs.Tried.{tried_bind, tried_done, tried_faults, tried_if, tried_simply, tried_within}
use Rattle.m386_transfer.proofs.Work.{NoCode, came_works}
use Rattle.m386_step.specs.Instruction.{operation_phrase}
use Rattle.m386_step.specs.Once.{is_fetch}
use Rattle.m386_step.specs.Settled.{behind_start}
use Rattle.m386_step.specs.Step.{start_phrase, without_start}
use Rattle.m386_step.proofs.Anew.{FetchesNone}

-- what is kept of the state that an instruction began in, where it came to no switch
abbrev pub KeepsUnclaimed : Proc → List Ask → Executed → Type 0
KeepsUnclaimed p ts (Ran r) = KeepsButClaimed p ts r.after
KeepsUnclaimed p ts (Came r) = ⊥

abbrev pub Lawful : ℕ → Proc → Phrase Executed → Type 0
Lawful n p t = Tried n (MayClaim p.gdtr) (KeepsUnclaimed p) p [] t

keeps_unclaimed : (p : Proc) (ts : List Ask) (e : Executed) → KeepsRun p ts e → KeepsUnclaimed p ts e
keeps_unclaimed p ts (Ran r) k = record { tr = inl k.tr; gdtr = k.gdtr; nested = k.nested }
keeps_unclaimed p ts (Came r) k = absurd k

-- an instruction that is an ordinary one or comes to a switch
pub lawful_tried : (n : ℕ) (p : Proc) (ts : List Ask) (t : Phrase Executed) → Tried n (Ordinary p.gdtr) (KeepsRun p) p ts t → Tried n (MayClaim p.gdtr) (KeepsUnclaimed p) p ts t
unfolding Tried
lawful_tried n p ts (Done e) h = keeps_unclaimed p ts e h
lawful_tried n p ts (Faults f) h = tt
lawful_tried n p ts (Begins m t) h = h
lawful_tried zero p ts (Asks q k) h = absurd h
lawful_tried (suc n) p ts (Asks q k) h = (inl h.0, λ v. lawful_tried n p (cycle_of q v ∷ ts) (k v) (h.1 v))

-- an ordinary operation of a crate
lawful_simply : (m : ℕ) (p : Proc) (t : Phrase Proc) → nat_le m 160 ≡ true → PlainFrom m p t → Lawful 160 p (simply t)
lawful_simply m p t l h = lawful_tried 160 p [] (simply t) (tried_simply m 160 p [] t (grind (arith, l)) h)

-- one of the processor's own operations, LTR among them
lawful_system : (op : Op) (p : Proc) → Lawful 160 p (simply (system_specs.exec_phrase op p))
unfolding simply
lawful_system op p =
    tried_bind 7 160 (MayClaim p.gdtr) (KeepsButClaimed p) (KeepsUnclaimed p) p [] (system_specs.exec_phrase op p) ran_whole (omega arith) (exec_claims op p)
    (λ us after k. tried_done 153 (MayClaim p.gdtr) (KeepsUnclaimed p) p us _ k)

lawful_within : (m : ℕ) (p : Proc) (t : Phrase Executed) → nat_le m 160 ≡ true → TriedFrom m p t → Lawful 160 p t
lawful_within m p t l h = lawful_tried 160 p [] t (tried_within m 160 (Ordinary p.gdtr) (KeepsRun p) p [] t (grind (arith, l)) h)

lawful_if : (p : Proc) (b : Bool) (t u : Phrase Executed) → Lawful 160 p t → Lawful 160 p u → Lawful 160 p (cond b t u)
lawful_if p b t u h k = tried_if 160 (MayClaim p.gdtr) (KeepsUnclaimed p) p [] b t u h k

-- Each crate, one line. The longest operation, a far CALL through a gate with 31 doublewords to copy, makes 154 cycles.
pub lawful_operation : (op : Op) (p : Proc) → Lawful 160 p (operation_phrase op p)
unfolding operation_phrase
lawful_operation op p =
    lawful_if p (data_specs.takes op) _ _ (lawful_simply 8 p _ refl (data_laws.exec_plain op p))
    (lawful_if p (deliver_specs.takes op) _ _ (lawful_within 117 p _ refl (deliver_laws.exec_tried op p))
    (lawful_if p (gates_specs.takes op) _ _ (lawful_within 154 p _ refl (gates_laws.exec_tried op p))
    (lawful_if p (ports_specs.takes op) _ _ (lawful_simply 6 p _ refl (ports_laws.exec_plain op p))
    (lawful_if p (segments_specs.takes op) _ _ (lawful_simply 9 p _ refl (segments_laws.exec_plain op p))
    (lawful_if p (stack_specs.takes op) _ _ (lawful_simply 16 p _ refl (stack_laws.exec_plain op p))
    (lawful_if p (string_specs.takes op) _ _ (lawful_simply 4 p _ refl (string_laws.exec_plain op p))
    (lawful_if p (system_specs.takes op) _ _ (lawful_system op p)
    (tried_faults 160 (MayClaim p.gdtr) (KeepsUnclaimed p) p [] _))))))))

-- It makes few cycles, the switch's among them.
tried_short : (n : ℕ) (may : List Ask → Ask → Type 0) (ends : List Ask → Executed → Type 0) (p : Proc) (ts : List Ask) (t : Phrase Executed) → Tried n may ends p ts t → AtMost n t
unfolding Tried
tried_short n may ends p ts (Done e) h = tt
tried_short n may ends p ts (Faults f) h = tt
tried_short n may ends p ts (Begins m t) h =
    let l : switch_bound ≤ n = h.0 in
    let s = h.2 in
    let w : Plain n NoCode Anything [] (work_phrase p s.brief.kind s.brief.selector s.brief.direct s.brief.ext >>= came_whole) = plain_within 113 n NoCode Anything [] _ (omega arith) (came_works p s.brief.kind s.brief.selector s.brief.direct s.brief.ext Came []) in
    subst (AtMost n) (sym s.work) (plain_at_most n NoCode Anything [] _ w)
tried_short zero may ends p ts (Asks q k) h = absurd h
tried_short (suc n) may ends p ts (Asks q k) h = λ v. tried_short n may ends p (cycle_of q v ∷ ts) (k v) (h.1 v)

pub short_operation : (op : Op) (p : Proc) → AtMost 160 (operation_phrase op p)
short_operation op p = tried_short 160 (MayClaim p.gdtr) (KeepsUnclaimed p) p [] (operation_phrase op p) (lawful_operation op p)

reads_no_code : (role : Role) → is_read_role role ≡ true → (role_number role == role_number Fetch) ≡ false
reads_no_code Fetch h = cc
reads_no_code _ h = refl

writes_no_code : (role : Role) → is_write_role role ≡ true → (role_number role == role_number Fetch) ≡ false
writes_no_code Fetch h = cc
writes_no_code _ h = refl

-- an ordinary ask fetches no code
ordinary_fetches_none : (gdt : TableReg) (us : List Ask) (q : Ask) → Ordinary gdt us q → is_fetch q ≡ false
ordinary_fetches_none gdt us q (Reads w r j) = reads_no_code q.role r
ordinary_fetches_none gdt us q (Writes w r j) = writes_no_code q.role r
ordinary_fetches_none gdt us q (Accesses selector b n was s i) = rw i.role refl

-- It fetches nothing.
none_plain : {A : Type 0} (gdt : TableReg) (n : ℕ) (ends : List Ask → A → Type 0) (us : List Ask) (t : Phrase A) → Plain n (Ordinary gdt) ends us t → FetchesNone t
unfolding Plain
none_plain gdt n ends us (Done a) h = tt
none_plain gdt n ends us (Faults f) h = tt
none_plain gdt n ends us (Begins m t) h = absurd h
none_plain gdt zero ends us (Asks q k) h = absurd h
none_plain gdt (suc n) ends us (Asks q k) h = (ordinary_fetches_none gdt us q h.0, λ v. none_plain gdt n ends (cycle_of q v ∷ us) (k v) (h.1 v))

claims_fetch_none : (gdt : TableReg) (us : List Ask) (q : Ask) → MayClaim gdt us q → is_fetch q ≡ false
claims_fetch_none gdt us q (inl o) = ordinary_fetches_none gdt us q o
claims_fetch_none gdt us q (inr c) = rw c.1 refl

-- nor does the work of a switch
none_works : {A : Type 0} (n : ℕ) (us : List Ask) (t : Phrase A) → Plain n NoCode Anything us t → FetchesNone t
unfolding Plain
none_works n us (Done a) h = tt
none_works n us (Faults f) h = tt
none_works n us (Begins m t) h = absurd h
none_works zero us (Asks q k) h = absurd h
none_works (suc n) us (Asks q k) h = (h.0, λ v. none_works n (cycle_of q v ∷ us) (k v) (h.1 v))

none_tried : (n : ℕ) (ends : List Ask → Executed → Type 0) (p : Proc) (us : List Ask) (t : Phrase Executed) → Tried n (MayClaim p.gdtr) ends p us t → FetchesNone t
unfolding Tried
none_tried n ends p us (Done e) h = tt
none_tried n ends p us (Faults f) h = tt
none_tried n ends p us (Begins m t) h =
    let s = h.2 in
    subst FetchesNone (sym s.work) (none_works 113 [] _ (came_works p s.brief.kind s.brief.selector s.brief.direct s.brief.ext Came []))
none_tried zero ends p us (Asks q k) h = absurd h
none_tried (suc n) ends p us (Asks q k) h = (claims_fetch_none p.gdtr us q h.0, λ v. none_tried n ends p (cycle_of q v ∷ us) (k v) (h.1 v))

pub none_operation : (op : Op) (p : Proc) → FetchesNone (operation_phrase op p)
none_operation op p = none_tried 160 (KeepsUnclaimed p) p [] (operation_phrase op p) (lawful_operation op p)

none_caught : {A : Type 0} (t : Phrase A) (w : Fault → A) → FetchesNone t → FetchesNone (either t Done (λ f. Done (w f)))
unfolding either
none_caught (Done a) w h = tt
none_caught (Faults x) w h = tt
none_caught (Begins m t) w h = none_caught t w h
none_caught (Asks q c) w h = (h.0, λ v. none_caught (c v) w (h.1 v))

none_then : {A B : Type 0} (t : Phrase A) (f : A → Phrase B) → FetchesNone t → ((a : A) → FetchesNone (f a)) → FetchesNone (t >>= f)
unfolding ◌>>=◌
none_then (Done a) f h k = k a
none_then (Faults x) f h k = tt
none_then (Begins m t) f h k = none_then t f h k
none_then (Asks q c) f h k = (h.0, λ v. none_then (c v) f (h.1 v) k)

-- Nor does the delivery of an event, which makes few cycles too: 117 up to its handler or task, and two for an error code there.
pub none_deliver : (p : Proc) (e : Event) → FetchesNone (deliver_phrase p e)
unfolding deliver_phrase met_phrase
none_deliver p e =
    none_then (met_phrase p e) (behind_gate_phrase e.code)
    (none_caught (entered_phrase p e) (λ f. Ran (ran p (Some f))) (none_tried 117 (KeepsUnclaimed p) p [] (entered_phrase p e) (lawful_tried 117 p [] (entered_phrase p e) (tried_entered p e))))
    (λ x. none_plain p.gdtr 2 Anything [] (behind_gate_phrase e.code x) (plain_behind_gate p.gdtr [] e.code x))

pub short_deliver : (p : Proc) (e : Event) → AtMost 119 (deliver_phrase p e)
unfolding deliver_phrase met_phrase
short_deliver p e =
    at_most_then 117 2 (met_phrase p e) _
    (at_most_either 117 0 (entered_phrase p e) _ _ (tried_short 117 (Ordinary p.gdtr) (KeepsRun p) p [] (entered_phrase p e) (tried_entered p e)) (λ x. tt) (λ f. tt))
    (λ x. plain_at_most 2 (Ordinary p.gdtr) Anything [] (behind_gate_phrase e.code x) (plain_behind_gate p.gdtr [] e.code x))

-- and the start of a task
pub none_start : (p : Proc) (selector : ℕ) → FetchesNone (start_phrase p selector)
unfolding start_phrase switch_phrase ◌>>=◌
none_start p selector = none_works 113 [] _ (came_works (without_start p) Start selector false false (behind_start (without_start p)) [])

pub short_start : (p : Proc) (selector : ℕ) → AtMost 113 (start_phrase p selector)
unfolding start_phrase switch_phrase ◌>>=◌
short_start p selector = plain_at_most 113 NoCode Anything [] _ (came_works (without_start p) Start selector false false (behind_start (without_start p)) [])
