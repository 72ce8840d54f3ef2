-- What a step keeps in which no attempt at a task switch is made.
use Rattle.std.proofs.Common.{◌≡◌, ℕ, zero, suc, ◌++◌, List, [], ◌∷◌, refl, subst, ◌⊎◌, inl, inr, Bool, true, false, cond, ◌==◌, ◌&&◌, ◌||◌, nat_lt, ◌-◌, ◌%◌, ◌+◌, ◌^◌, Option, Some, None}
use Rattle.m386_base.specs.declared.ask.Ask.{Ask}
use Rattle.m386_base.specs.declared.ask.Role.{Role}
use Rattle.m386_base.specs.declared.ask.Role.TheVariants as roles
use Rattle.m386_base.specs.declared.fault.Fault.{Fault}
use Rattle.m386_base.specs.declared.flags.Flag.TheVariants.{Trap}
use Rattle.m386_base.specs.Bus.{cycle_of}
use Rattle.m386_base.specs.Bytes.{has_nt}
use Rattle.m386_base.specs.Flags.{has_flag}
use Rattle.m386_base.specs.Laws.{attempts}
use Rattle.m386_base.specs.Phrase.{Phrase, Done, Faults, Asks, Begins, ◌>>=◌, either, one, follow, Whole, Wrong, matches, answer_of, role_number}
use Rattle.m386_base.specs.Plain.{behind}
use Rattle.m386_base.proofs.Matched.{cycle_matched}
use Rattle.m386_decode.specs.declared.decoded.Decoded.{Decoded}
use Rattle.m386_opmap.specs.declared.op.Op.{Op}
use Rattle.m386_opmap.specs.declared.outcome.Reading.{Reading}
use Rattle.m386_opmap.specs.declared.outcome.Reading.TheVariants.{Spelled, More, Refused}
use Rattle.m386_opmap.specs.Readings.{reading_of}
use Rattle.m386_state.specs.declared.event.Event.{Event}
use Rattle.m386_state.specs.declared.proc.Mode.{Mode}
use Rattle.m386_state.specs.declared.proc.Mode.TheVariants.{Running, Halted, Shutdown}
use Rattle.m386_state.specs.declared.proc.Proc.{Proc}
use Rattle.m386_access.specs.After.{at_eip}
use Rattle.m386_access.specs.Ordinary.{has_role, is_nested, popped}
use Rattle.m386_access.specs.declared.ran.Ran.{Ran as RanRecord}
use Rattle.m386_deliver.specs.Deliver.{entered_phrase, behind_gate_phrase, met_phrase, deliver_phrase}
use Rattle.m386_deliver.specs.Exec.{delivers}
use Rattle.m386_deliver.specs.Second.{second_of}
use Rattle.m386_deliver.proofs.Plain.{tried_entered}
use Rattle.m386_string.specs.Element.{element_of}
use Rattle.m386_string.specs.Repetition.{is_followed, behind_turn}
use Rattle.m386_switch.specs.Switch.{switch_phrase}
use Rattle.m386_system.specs.Claims.{MayClaim, KeepsButClaimed}
use Rattle.m386_transfer.specs.declared.executed.Executed.{Executed}
use Rattle.m386_transfer.specs.declared.executed.Executed.TheVariants.{Ran, Came}
use Rattle.m386_transfer.specs.Tried.{Tried}
use Rattle.m386_step.specs.declared.fetch.Reader.{Reader}
use Rattle.m386_step.specs.Code.{read_on, further_phrase, decode_phrase}
use Rattle.m386_step.specs.Events.{due, at_delivery, at_delivery_of, behind_second, behind_met, delivery_phrase}
use Rattle.m386_step.specs.Fetch.{byte_phrase, group_phrase, linear, first_reader, taken, fetch_ask}
use Rattle.m386_step.specs.Instruction.{behind_operation, operation_phrase, decoded_phrase, instruction_phrase}
use Rattle.m386_step.specs.Keeping.{KeepsTask}
use Rattle.m386_step.specs.Settled.{settled}
use Rattle.m386_step.specs.Step.{start_phrase, running_phrase, turn_phrase, event_or_turn, start_or_event, step_phrase}
use Rattle.m386_step.proofs.Ordinary.{KeepsUnclaimed, lawful_operation, lawful_tried}

-- Behind the cycles ts, the newest first, each way through a phrase on which no attempt begins ends in what P holds of.
unfoldable pub Calm : {A : Type 0} → (List Ask → A → Type 0) → List Ask → Phrase A → Type 0
Calm P ts (Done a) = P ts a
Calm P ts (Faults f) = Unit {0}
Calm P ts (Begins m t) = Unit {0}
Calm P ts (Asks q k) = (v : ℕ) → Calm P (cycle_of q v ∷ ts) (k v)

abbrev Anything : {A : Type 0} → List Ask → A → Type 0
Anything ts a = Unit {0}

-- what is calm holds of whole cycles in which no attempt begins
pub calm_whole : {A : Type 0} (P : List Ask → A → Type 0) (us : List Ask) (t : Phrase A) (a : A) (ts : List Ask) → Calm P us t → follow t ts ≡ Whole a [] → attempts t ts ≡ [] → P (behind us ts) a
unfolding Calm attempts follow
calm_whole P us (Done b) a [] h e n = let i : b ≡ a = cc in subst (P us) i h
calm_whole P us (Done b) a (x ∷ ts) h e n = cc
calm_whole P us (Faults f) a ts h e n = cc
calm_whole P us (Begins m t) a ts h e n = cc
calm_whole P us (Asks q k) a [] h e n = cc
calm_whole P us (Asks q k) a (t ∷ ts) h e n = go (matches q t) refl (calm_whole P (cycle_of q (answer_of t) ∷ us) (k (answer_of t)) a ts (h (answer_of t)))
  where
    go : (b : Bool) → matches q t ≡ b → (follow (k (answer_of t)) ts ≡ Whole a [] → attempts (k (answer_of t)) ts ≡ [] → P (behind (cycle_of q (answer_of t) ∷ us) ts) a) → P (behind (t ∷ us) ts) a
    go true f ih = subst (λ x. P (behind (x ∷ us) ts) a) (cycle_matched q t f) (ih (rw f at e) n)
    go false f ih = let d : Wrong ≡ Whole a [] = rw f at e in cc

-- phrases laid end to end
calm_then : {A B : Type 0} (P : List Ask → A → Type 0) (Q : List Ask → B → Type 0) (ts : List Ask) (t : Phrase A) (f : A → Phrase B) → Calm P ts t → ((us : List Ask) (a : A) → P us a → Calm Q us (f a)) → Calm Q ts (t >>= f)
unfolding Calm ◌>>=◌
calm_then P Q ts (Done a) f h k = k ts a h
calm_then P Q ts (Faults x) f h k = tt
calm_then P Q ts (Begins m t) f h k = tt
calm_then P Q ts (Asks q c) f h k = λ v. calm_then P Q (cycle_of q v ∷ ts) (c v) f (h v) k

-- a phrase, and what follows from its end and from its fault
calm_either : {A B : Type 0} (P : List Ask → A → Type 0) (Q : List Ask → B → Type 0) (ts : List Ask) (t : Phrase A) (f : A → Phrase B) (g : Fault → Phrase B) → Calm P ts t → ((us : List Ask) (a : A) → P us a → Calm Q us (f a)) → ((us : List Ask) (x : Fault) → Calm Q us (g x)) → Calm Q ts (either t f g)
unfolding Calm either
calm_either P Q ts (Done a) f g h k l = k ts a h
calm_either P Q ts (Faults x) f g h k l = l ts x
calm_either P Q ts (Begins m t) f g h k l = tt
calm_either P Q ts (Asks q c) f g h k l = λ v. calm_either P Q (cycle_of q v ∷ ts) (c v) f g (h v) k l

calm_done : {A : Type 0} (P : List Ask → A → Type 0) (ts : List Ask) (a : A) → P ts a → Calm P ts (Done a)
unfolding Calm
calm_done P ts a h = h

calm_faults : {A : Type 0} (P : List Ask → A → Type 0) (ts : List Ask) (f : Fault) → Calm P ts (Faults f)
unfolding Calm
calm_faults P ts f = tt

calm_if : {A : Type 0} (P : List Ask → A → Type 0) (ts : List Ask) (b : Bool) (t u : Phrase A) → Calm P ts t → Calm P ts u → Calm P ts (cond b t u)
calm_if P ts true t u h k = h
calm_if P ts false t u h k = k

-- weaker ends
calm_ends : {A : Type 0} (P Q : List Ask → A → Type 0) (ts : List Ask) (t : Phrase A) → ((us : List Ask) (a : A) → P us a → Q us a) → Calm P ts t → Calm Q ts t
unfolding Calm
calm_ends P Q ts (Done a) k h = k ts a h
calm_ends P Q ts (Faults f) k h = tt
calm_ends P Q ts (Begins m t) k h = tt
calm_ends P Q ts (Asks q c) k h = λ v. calm_ends P Q (cycle_of q v ∷ ts) (c v) k (h v)

-- cycles before make no difference to what is kept
or_left : (a b c : Bool) → (b ≡ true → c ≡ true) → (a || b) ≡ true → (a || c) ≡ true
or_left true b c f h = refl
or_left false b c f h = f h

has_more : (role : Role) (us before : List Ask) → has_role role us ≡ true → has_role role (us ++ before) ≡ true
has_more role [] before h = cc
has_more role (u ∷ us) before h = or_left (role_number u.role == role_number role) (has_role role us) (has_role role (us ++ before)) (has_more role us before) h

popped_more : (us before : List Ask) → popped us ≡ true → popped (us ++ before) ≡ true
popped_more [] before h = cc
popped_more (u ∷ us) before h = or_left ((role_number u.role == role_number roles.Flags) && has_nt u) (popped us) (popped (us ++ before)) (popped_more us before) h

keeps_more : (p : Proc) (us before : List Ask) (after : Proc) → KeepsButClaimed p us after → KeepsTask p (us ++ before) after
keeps_more p us before after k = record { tr = claimed k.tr; gdtr = loaded k.gdtr; nested = λ h. set (k.nested h) }
  where
    claimed : (after.tr ≡ p.tr) ⊎ (has_role roles.ClaimLtr us ≡ true) → (after.tr ≡ p.tr) ⊎ (has_role roles.ClaimLtr (us ++ before) ≡ true)
    claimed (inl e) = inl e
    claimed (inr h) = inr (has_more roles.ClaimLtr us before h)

    loaded : (after.gdtr ≡ p.gdtr) ⊎ (has_role roles.Lgdt us ≡ true) → (after.gdtr ≡ p.gdtr) ⊎ (has_role roles.Lgdt (us ++ before) ≡ true)
    loaded (inl e) = inl e
    loaded (inr h) = inr (has_more roles.Lgdt us before h)

    set : (is_nested p ≡ true) ⊎ (popped us ≡ true) → (is_nested p ≡ true) ⊎ (popped (us ++ before) ≡ true)
    set (inl e) = inl e
    set (inr h) = inr (popped_more us before h)

-- what an instruction that came to no switch keeps
KeepsRan : Proc → List Ask → Executed → Type 0
KeepsRan p ts (Ran r) = KeepsTask p ts r.after
KeepsRan p ts (Came r) = ⊥

keeps_ran : (p : Proc) (us before : List Ask) (e : Executed) → KeepsUnclaimed p us e → KeepsRan p (us ++ before) e
unfolding KeepsRan
keeps_ran p us before (Ran r) k = keeps_more p us before r.after k
keeps_ran p us before (Came r) k = absurd k

calm_tried : (n : ℕ) (p : Proc) (us before : List Ask) (t : Phrase Executed) → Tried n (MayClaim p.gdtr) (KeepsUnclaimed p) p us t → Calm (KeepsRan p) (us ++ before) t
unfolding Tried Calm
calm_tried n p us before (Done e) h = keeps_ran p us before e h
calm_tried n p us before (Faults f) h = tt
calm_tried n p us before (Begins m t) h = tt
calm_tried zero p us before (Asks q k) h = absurd h
calm_tried (suc n) p us before (Asks q k) h = λ v. calm_tried n p (cycle_of q v ∷ us) before (k v) (h.1 v)

-- Each operation, whatever came before it in its step.
calm_operation : (op : Op) (p : Proc) (ts : List Ask) → Calm (KeepsRan p) ts (operation_phrase op p)
calm_operation op p ts = calm_tried 160 p [] ts (operation_phrase op p) (lawful_operation op p)

-- the fetches
calm_group : (r : Reader) (ts : List Ask) → Calm Anything ts (group_phrase r)
unfolding group_phrase Calm ◌>>=◌
calm_group r ts =
    let group = linear r - linear r % 4 in
    calm_if Anything ts (r.fetched && (r.group == group)) (Done (taken r)) (one (fetch_ask group) >>= (λ v. Done (taken (record r { fetched = true; group = group; value = v })))) tt (λ v. tt)

calm_byte : (r : Reader) (ts : List Ask) → Calm Anything ts (byte_phrase r)
unfolding byte_phrase
calm_byte r ts = calm_if Anything ts (nat_lt r.limit r.at) _ _ (calm_faults Anything ts _) (calm_group r ts)

calm_read_on : (x : Reading) (more : Phrase Decoded) (ts : List Ask) → Calm Anything ts more → Calm Anything ts (read_on x more)
calm_read_on (Spelled op len) more ts h = calm_done Anything ts _ tt
calm_read_on (Refused at) more ts h = calm_faults Anything ts _
calm_read_on More more ts h = h

calm_further : (n : ℕ) (bytes : List ℕ) (r : Reader) (ts : List Ask) → Calm Anything ts (further_phrase n bytes r)
unfolding further_phrase
calm_further zero bytes r ts = calm_faults Anything ts _
calm_further (suc n) bytes r ts =
    calm_then Anything Anything ts (byte_phrase r) _ (calm_byte r ts)
    (λ us b o. calm_read_on (reading_of (bytes ++ b.0 ∷ [])) _ us (calm_further n (bytes ++ b.0 ∷ []) b.1 us))

calm_decode : (r : Reader) (ts : List Ask) → Calm Anything ts (decode_phrase r)
unfolding decode_phrase
calm_decode r ts = calm_further 15 [] r ts

-- behind a turn whose repetition may go on
keeps_behind : (op : Op) (p : Proc) (us : List Ask) (after : Proc) → KeepsTask p us after → KeepsTask p us (behind_turn op p after)
unfolding behind_turn
keeps_behind op p us after k = go (is_followed (element_of op.name) op.rep p after)
  where
    go : (b : Bool) → KeepsTask p us (cond b (at_eip after p.eip) after)
    go true = record { tr = k.tr; gdtr = k.gdtr; nested = k.nested }
    go false = k

keeps_pending : (p : Proc) (us : List Ask) (after : Proc) (e : Option Event) (b : Bool) → KeepsTask p us after → KeepsTask p us (cond b (record after { pending = e }) after)
keeps_pending p us after e true k = record { tr = k.tr; gdtr = k.gdtr; nested = k.nested }
keeps_pending p us after e false k = k

keeps_settled : (delivered : Bool) (p : Proc) (us : List Ask) (after : Proc) (fault : Option Fault) → KeepsTask p us after → KeepsTask p us (settled delivered p after fault)
keeps_settled delivered p us after (Some f) k = record { tr = k.tr; gdtr = k.gdtr; nested = k.nested }
keeps_settled true p us after None k = k
keeps_settled false p us after None k = keeps_pending p us after _ (has_flag Trap p.eflags) k

keeps_operation : (op : Op) (p : Proc) (next : ℕ) (us : List Ask) (e : Executed) → KeepsRan (at_eip p next) us e → KeepsTask p us (behind_operation op p e)
unfolding KeepsRan
keeps_operation op p next us (Ran r) k = keeps_settled (delivers op p) p us _ r.fault (keeps_behind op p us r.after (record { tr = k.tr; gdtr = k.gdtr; nested = k.nested }))
keeps_operation op p next us (Came r) k = absurd k

calm_instruction : (p : Proc) → Calm (KeepsTask p) [] (instruction_phrase p)
unfolding instruction_phrase decoded_phrase
calm_instruction p =
    calm_then Anything (KeepsTask p) [] (decode_phrase (first_reader p)) _ (calm_decode (first_reader p) [])
    (λ us d o.
    let next : ℕ = (p.eip + d.len) % 2 ^ 32 in
    calm_then (KeepsRan (at_eip p next)) (KeepsTask p) us (operation_phrase d.op (at_eip p next)) _ (calm_operation d.op (at_eip p next) us)
    (λ vs e k. calm_done (KeepsTask p) vs _ (keeps_operation d.op p next vs e k)))

keeps_same : (p : Proc) (us : List Ask) → KeepsTask p us p
keeps_same p us = record { tr = inl refl; gdtr = inl refl; nested = λ h. inl h }

calm_turn : (m : Mode) (p : Proc) → Calm (KeepsTask p) [] (turn_phrase m p)
unfolding running_phrase
calm_turn Running p =
    calm_either (KeepsTask p) (KeepsTask p) [] (instruction_phrase p) _ _ (calm_instruction p) (λ us r k. calm_done (KeepsTask p) us r k)
    (λ us f. calm_done (KeepsTask p) us _ (record { tr = inl refl; gdtr = inl refl; nested = λ h. inl h }))
calm_turn Halted p = calm_done (KeepsTask p) [] p (keeps_same p [])
calm_turn Shutdown p = calm_done (KeepsTask p) [] p (keeps_same p [])

-- a delivery: behind its gate, and with the fault that was met
abbrev KeepsAfter : Proc → List Ask → RanRecord → Type 0
KeepsAfter p us r = KeepsTask p us r.after

calm_behind_gate : (p : Proc) (us : List Ask) (code : Option ℕ) (x : Executed) → KeepsRan p us x → Calm (KeepsAfter p) us (behind_gate_phrase code x)
unfolding KeepsRan
calm_behind_gate p us code (Ran r) k = calm_done (KeepsAfter p) us r k
calm_behind_gate p us code (Came r) k = absurd k

keeps_second : (p : Proc) (us : List Ask) (after : Proc) (e : Option Event) → KeepsTask p us after → KeepsTask p us (behind_second after e)
keeps_second p us after (Some e) k = record { tr = k.tr; gdtr = k.gdtr; nested = k.nested }
keeps_second p us after None k = record { tr = k.tr; gdtr = k.gdtr; nested = k.nested }

keeps_met : (p : Proc) (us : List Ask) (e : Event) (after : Proc) (fault : Option Fault) → KeepsTask p us after → KeepsTask p us (behind_met e after fault)
keeps_met p us e after (Some f) k = keeps_second p us after (second_of e f) k
keeps_met p us e after None k = k

calm_delivery : (p : Proc) (e : Event) → Calm (KeepsTask p) [] (delivery_phrase p e)
unfolding delivery_phrase deliver_phrase met_phrase KeepsRan
calm_delivery p e =
    calm_then (KeepsAfter p) (KeepsTask p) [] (deliver_phrase p e) _
    (calm_then (KeepsRan p) (KeepsAfter p) [] (met_phrase p e) _
    (calm_either (KeepsRan p) (KeepsRan p) [] (entered_phrase p e) _ _ (calm_tried 117 p [] [] (entered_phrase p e) (lawful_tried 117 p [] (entered_phrase p e) (tried_entered p e)))
    (λ us x k. calm_done (KeepsRan p) us x k) (λ us f. calm_done (KeepsRan p) us _ (keeps_same p us)))
    (λ us x k. calm_behind_gate p us e.code x k))
    (λ us r k. calm_done (KeepsTask p) us _ (keeps_met p us e r.after r.fault k))

-- what a taken event leaves as it was
taken_keeps : (e : Option Event) (p : Proc) (us : List Ask) (after : Proc) → KeepsTask (at_delivery_of e p) us after → KeepsTask p us after
taken_keeps (Some e) p us after k = record { tr = k.tr; gdtr = k.gdtr; nested = k.nested }
taken_keeps None p us after k = record { tr = k.tr; gdtr = k.gdtr; nested = k.nested }

calm_event : (due : Option Event) (p : Proc) → Calm (KeepsTask p) [] (event_or_turn due p)
calm_event (Some e) p = calm_ends (KeepsTask (at_delivery p)) (KeepsTask p) [] (delivery_phrase (at_delivery p) e) (λ us after k. taken_keeps p.pending p us after k) (calm_delivery (at_delivery p) e)
calm_event None p =
    let begun : Proc = record p { shadow = false } in
    calm_ends (KeepsTask begun) (KeepsTask p) [] (turn_phrase p.mode begun) (λ us after k. record { tr = k.tr; gdtr = k.gdtr; nested = k.nested }) (calm_turn p.mode begun)

calm_begun : (start : Option ℕ) (p : Proc) → Calm (KeepsTask p) [] (start_or_event start p)
unfolding start_phrase switch_phrase Calm ◌>>=◌
calm_begun (Some selector) p = tt
calm_begun None p = calm_event (due p) p

pub keeps_step : (p after : Proc) (ts : List Ask) → follow (step_phrase p) ts ≡ Whole after [] → attempts (step_phrase p) ts ≡ [] → KeepsTask p (behind [] ts) after
unfolding step_phrase
keeps_step p after ts e n = calm_whole (KeepsTask p) [] (start_or_event p.start p) after ts (calm_begun p.start p) e n
