-- Each attempt at a task switch within a step ends as StepEnds says, and stands behind reads.
use Rattle.std.proofs.Common.{◌≡◌, ℕ, zero, suc, ◌+◌, ◌++◌, ◌*◌, ◌%◌, ◌^◌, ◌-◌, ◌&&◌, ◌==◌, List, [], ◌∷◌, refl, sym, ap, subst, append-nil, Bool, true, false, cond, nat_lt, Option, Some, None, inl, inr}
use Rattle.std.specs.List.{AllByRecursion}
use Rattle.m386_base.specs.declared.ask.Ask.{Ask}
use Rattle.m386_base.specs.declared.ask.Role.TheVariants as roles
use Rattle.m386_base.specs.declared.fault.Fault.{Fault}
use Rattle.m386_base.specs.declared.kind.SwitchKind.{SwitchKind}
use Rattle.m386_base.specs.declared.kind.SwitchKind.TheVariants as switches
use Rattle.m386_base.specs.Bus.{cycle_of}
use Rattle.m386_base.specs.Laws.{attempts}
use Rattle.m386_base.specs.Phrase.{Phrase, Done, Faults, Asks, Begins, Attempt, ◌>>=◌, either, one, follow, Whole, Wrong, matches, answer_of}
use Rattle.m386_base.specs.Plain.{Plain}
use Rattle.m386_decode.specs.declared.decoded.Decoded.{Decoded}
use Rattle.m386_opmap.specs.declared.op.Op.{Op}
use Rattle.m386_opmap.specs.declared.outcome.Reading.{Reading}
use Rattle.m386_opmap.specs.declared.outcome.Reading.TheVariants.{Spelled, More, Refused}
use Rattle.m386_opmap.specs.Readings.{reading_of}
use Rattle.m386_state.specs.declared.event.Event.{Event}
use Rattle.m386_state.specs.declared.proc.Mode.{Mode}
use Rattle.m386_state.specs.declared.proc.Mode.TheVariants.{Running, Halted, Shutdown}
use Rattle.m386_state.specs.declared.proc.Proc.{Proc}
use Rattle.m386_access.specs.After.{at_eip}
use Rattle.m386_access.specs.Ordinary.{Ordinary, Keeps}
use Rattle.m386_checks.specs.Holds.{is_start}
use Rattle.m386_access.specs.Ran.{ran}
use Rattle.m386_access.proofs.Phrases.{Anything}
use Rattle.m386_base.specs.declared.desc.Desc.{Desc}
use Rattle.m386_base.specs.declared.split.Piece.{Piece}
use Rattle.m386_desc.specs.Access.{kind_of}
use Rattle.m386_desc.specs.Selector.{is_in_table}
use Rattle.m386_deliver.specs.Deliver.{through_phrase, gate_brief, leads_to_task, entered_phrase, behind_gate_phrase, met_phrase, deliver_phrase}
use Rattle.m386_deliver.specs.Gate.{gate_candidate, entry_phrase, gate_phrase}
use Rattle.m386_deliver.proofs.Plain.{plain_through, plain_behind_gate}
use Rattle.m386_segload.specs.Descriptors.{word_reads, descriptor_phrase}
use Rattle.m386_segload.specs.Rules.{first_broken, need, event_gate_rules}
use Rattle.m386_switch.specs.declared.outcome.Switched.{Switched}
use Rattle.m386_switch.specs.Attempts.{EachEnds, is_of_a_switch}
use Rattle.m386_switch.specs.Ends.{SwitchEnds, EndsAs}
use Rattle.m386_switch.specs.Seen.{Seen, note, nothing_seen}
use Rattle.m386_switch.specs.Switch.{attempt_of, switch_phrase, work_phrase}
use Rattle.m386_switch.proofs.Attempts.{each_attempt}
use Rattle.m386_switch.proofs.Law.{work_ends}
use Rattle.m386_switch.proofs.Shows.{Shows}
use Rattle.m386_switch.proofs.Whole.{work_shows}
use Rattle.m386_system.specs.Claims.{MayClaim}
use Rattle.m386_transfer.specs.declared.executed.Executed.{Executed}
use Rattle.m386_transfer.specs.declared.executed.Executed.TheVariants.{Ran, Came}
use Rattle.m386_transfer.specs.Executed.{simply, came_whole, switching_phrase}
use Rattle.m386_transfer.specs.Tried.{IsSwitching, Tried}
use Rattle.m386_step.specs.declared.fetch.Reader.{Reader}
use Rattle.m386_step.specs.Code.{read_on, further_phrase, decode_phrase}
use Rattle.m386_step.specs.Events.{due, at_delivery, behind_delivery, delivery_phrase, behind_task_phrase}
use Rattle.m386_step.specs.Fetch.{byte_phrase, group_phrase, linear, first_reader, taken, fetch_ask}
use Rattle.m386_step.specs.Instruction.{behind_operation, operation_phrase, decoded_phrase, instruction_phrase}
use Rattle.m386_step.specs.Settled.{faulted, behind_switch, behind_start}
use Rattle.m386_step.specs.Step.{without_start, start_phrase, running_phrase, turn_phrase, event_or_turn, start_or_event, step_phrase}
use Rattle.m386_step.specs.StepEnds.{StepEnds}
use Rattle.m386_step.proofs.Ordinary.{KeepsUnclaimed, lawful_operation}

-- What a switch came to is the last thing that its instruction finds, and no fault is caught.
switch_last : {B : Type 0} (P : Seen → Switched → Type 0) (g : Seen) (x : Phrase Switched) (w : Executed → B) (caught : Fault → Phrase B) (ts : List Ask) (b : B) → Shows P g x → follow (either ((x >>= came_whole) >>= (λ e. Done (w e))) Done caught) ts ≡ Whole b [] → (r : Switched) × (follow x ts ≡ Whole r []) × (b ≡ w (Came r))
unfolding Shows ◌>>=◌ either follow
switch_last P g (Done r) w caught [] b h e = let i : w (Came r) ≡ b = cc in (r, refl, sym i)
switch_last P g (Done r) w caught (t ∷ ts) b h e = cc
switch_last P g (Faults f) w caught ts b h e = absurd h
switch_last P g (Begins m t) w caught ts b h e = absurd h
switch_last P g (Asks q k) w caught [] b h e = cc
switch_last {B = B} P g (Asks q k) w caught (t ∷ ts) b h e = go (matches q t) refl (switch_last P (note g (cycle_of q (answer_of t))) (k (answer_of t)) w caught ts b (h (answer_of t)))
  where
    go : (c : Bool) → matches q t ≡ c → (follow (either ((k (answer_of t) >>= came_whole) >>= (λ e. Done (w e))) Done caught) ts ≡ Whole b [] → (r : Switched) × (follow (k (answer_of t)) ts ≡ Whole r []) × (b ≡ w (Came r))) → (r : Switched) × (cond (matches q t) (follow (k (answer_of t)) ts) Wrong ≡ Whole r []) × (b ≡ w (Came r))
    go true f ih = let d = ih (rw f at e) in (d.0, rw f d.1, d.2)
    go false f ih = let d : Wrong ≡ Whole b [] = rw f at e in cc

-- none begins in the midst of it
switch_alone : {B : Type 0} (Q : Attempt → List Ask → B → Type 0) (P : Seen → Switched → Type 0) (g : Seen) (x : Phrase Switched) (w : Executed → B) (caught : Fault → Phrase B) → Shows P g x → EachEnds Q (either ((x >>= came_whole) >>= (λ e. Done (w e))) Done caught)
unfolding Shows EachEnds ◌>>=◌ either
switch_alone Q P g (Done r) w caught h = tt
switch_alone Q P g (Faults f) w caught h = absurd h
switch_alone Q P g (Begins m t) w caught h = absurd h
switch_alone Q P g (Asks q k) w caught h = λ v. switch_alone Q P (note g (cycle_of q v)) (k v) w caught (h v)

-- an instruction that comes to a switch of this kind
instruction_ends : (s : Proc) (next : ℕ) (kind : SwitchKind) (selector : ℕ) (direct ext : Bool) (us : List Ask) (came : Switched) → is_start kind ≡ false
    → SwitchEnds (attempt_of (record s { shadow = false; eip = next }) kind selector direct ext) us (record s { shadow = false; eip = next }) came
    → StepEnds s (attempt_of (record s { shadow = false; eip = next }) kind selector direct ext) us (behind_switch (record s { shadow = false }) came)
instruction_ends s next switches.Jmp selector direct ext us came n h = record { begun = record s { shadow = false; eip = next }; came = came; own = us; behind = []; joined = sym (append-nil us); known = refl; ends = h; leaves = inl (record { next = next; begins = refl; nothing = refl; state = refl }) }
instruction_ends s next switches.Call selector direct ext us came n h = record { begun = record s { shadow = false; eip = next }; came = came; own = us; behind = []; joined = sym (append-nil us); known = refl; ends = h; leaves = inl (record { next = next; begins = refl; nothing = refl; state = refl }) }
instruction_ends s next switches.Iret selector direct ext us came n h = record { begun = record s { shadow = false; eip = next }; came = came; own = us; behind = []; joined = sym (append-nil us); known = refl; ends = h; leaves = inl (record { next = next; begins = refl; nothing = refl; state = refl }) }
instruction_ends s next switches.Event selector direct ext us came n h = record { begun = record s { shadow = false; eip = next }; came = came; own = us; behind = []; joined = sym (append-nil us); known = refl; ends = h; leaves = inl (record { next = next; begins = refl; nothing = refl; state = refl }) }
instruction_ends s next switches.Start selector direct ext us came n h = absurd cc

-- an instruction that ends so, and what is caught
abbrev pub whole_instruction : Op → Proc → Phrase Executed → Phrase Proc
whole_instruction op p t = either (t >>= (λ e. Done (behind_operation op p e))) Done (λ f. Done (faulted p f))

switching_ends : (s : Proc) (next : ℕ) (op : Op) (m : Attempt) (t : Phrase Executed) → IsSwitching (record s { shadow = false; eip = next }) m t → EachEnds (StepEnds s) (whole_instruction op (record s { shadow = false }) (Begins m t))
unfolding EachEnds ◌>>=◌ either
switching_ends s next op m t i =
    let p : Proc = record s { shadow = false; eip = next } in
    let before : Proc = record s { shadow = false } in
    let b = i.brief in
    let known : Attempt = attempt_of p b.kind b.selector b.direct b.ext in
    let x : Phrase Switched = work_phrase p b.kind b.selector b.direct b.ext in
    let P : Seen → Switched → Type 0 = λ g r. EndsAs known g p r in
    let shows : Shows P nothing_seen x = work_shows p b.kind b.selector b.direct b.ext in
    let R : Phrase Executed → Type 0 = λ u. ((us : List Ask) (s2 : Proc) → follow (whole_instruction op before u) us ≡ Whole s2 [] → StepEnds s known us s2) × EachEnds (StepEnds s) (whole_instruction op before u) in
    let one : R (x >>= came_whole) = (
      λ us s2 e.
          let d = switch_last P nothing_seen x (behind_operation op before) (λ f. Done (faulted before f)) us s2 shows e in
          subst (StepEnds s known us) (sym d.2) (instruction_ends s next b.kind b.selector b.direct b.ext us d.0 i.way (work_ends p b.kind b.selector b.direct b.ext us d.0 d.1)),
      switch_alone (StepEnds s) P nothing_seen x (behind_operation op before) (λ f. Done (faulted before f)) shows,
    ) in
    let two : R t = subst R (sym i.work) one in
    let T : Attempt → Type 0 = λ a. ((us : List Ask) (s2 : Proc) → follow (whole_instruction op before t) us ≡ Whole s2 [] → StepEnds s a us s2) × EachEnds (StepEnds s) (whole_instruction op before t) in
    subst T (sym i.known) two

-- an operation, which comes to a switch or doesn't
tried_ends : (s : Proc) (next n : ℕ) (op : Op) (us : List Ask) (t : Phrase Executed) → Tried n (MayClaim s.gdtr) (KeepsUnclaimed (record s { shadow = false; eip = next })) (record s { shadow = false; eip = next }) us t → EachEnds (StepEnds s) (whole_instruction op (record s { shadow = false }) t)
unfolding Tried EachEnds ◌>>=◌ either
tried_ends s next n op us (Done e) h = tt
tried_ends s next n op us (Faults f) h = tt
tried_ends s next n op us (Begins m t) h = switching_ends s next op m t h.2
tried_ends s next zero op us (Asks q k) h = absurd h
tried_ends s next (suc n) op us (Asks q k) h = λ v. tried_ends s next n op (cycle_of q v ∷ us) (k v) (h.1 v)

-- a phrase that makes reads alone, none of a switch, and comes to no switch
unfoldable pub Looks : {A : Type 0} → Phrase A → Type 0
Looks (Done a) = Unit {0}
Looks (Faults f) = Unit {0}
Looks (Begins m t) = ⊥
Looks (Asks q k) = (q.write ≡ false) × (is_of_a_switch q.role ≡ false) × ((v : ℕ) → Looks (k v))

looks_then : {A B : Type 0} (t : Phrase A) (f : A → Phrase B) → Looks t → ((a : A) → Looks (f a)) → Looks (t >>= f)
unfolding Looks ◌>>=◌
looks_then (Done a) f h k = k a
looks_then (Faults x) f h k = tt
looks_then (Begins m t) f h k = absurd h
looks_then (Asks q c) f h k = (h.0, h.1, λ v. looks_then (c v) f (h.2 v) k)

looks_if : {A : Type 0} (b : Bool) (t u : Phrase A) → Looks t → Looks u → Looks (cond b t u)
looks_if true t u h k = h
looks_if false t u h k = k

looks_done : {A : Type 0} (a : A) → Looks (Done a)
unfolding Looks
looks_done a = tt

looks_faults : (A : Type 0) (f : Fault) → Looks {A = A} (Faults f)
unfolding Looks
looks_faults A f = tt

-- the fetches
looks_group : (r : Reader) → Looks (group_phrase r)
unfolding group_phrase Looks ◌>>=◌
looks_group r =
    let group = linear r - linear r % 4 in
    looks_if (r.fetched && (r.group == group)) (Done (taken r)) (one (fetch_ask group) >>= (λ v. Done (taken (record r { fetched = true; group = group; value = v })))) tt (refl, refl, λ v. tt)

looks_byte : (r : Reader) → Looks (byte_phrase r)
unfolding byte_phrase
looks_byte r = looks_if (nat_lt r.limit r.at) _ _ (looks_faults _ _) (looks_group r)

looks_read_on : (x : Reading) (more : Phrase Decoded) → Looks more → Looks (read_on x more)
looks_read_on (Spelled op len) more h = looks_done _
looks_read_on (Refused at) more h = looks_faults _ _
looks_read_on More more h = h

looks_further : (n : ℕ) (bytes : List ℕ) (r : Reader) → Looks (further_phrase n bytes r)
unfolding further_phrase
looks_further zero bytes r = looks_faults _ _
looks_further (suc n) bytes r = looks_then (byte_phrase r) _ (looks_byte r) (λ b. looks_read_on (reading_of (bytes ++ b.0 ∷ [])) _ (looks_further n (bytes ++ b.0 ∷ []) b.1))

pub looks_decode : (r : Reader) → Looks (decode_phrase r)
unfolding decode_phrase
looks_decode r = looks_further 15 [] r

-- an instruction: its bytes, and its operation
front_ends : {A : Type 0} (Q : Attempt → List Ask → Proc → Type 0) (t : Phrase A) (f : A → Phrase Proc) (caught : Fault → Proc) → Looks t → ((a : A) → EachEnds Q (either (f a) Done (λ x. Done (caught x)))) → EachEnds Q (either (t >>= f) Done (λ x. Done (caught x)))
unfolding Looks EachEnds ◌>>=◌ either
front_ends Q (Done a) f caught h k = k a
front_ends Q (Faults x) f caught h k = tt
front_ends Q (Begins m t) f caught h k = absurd h
front_ends Q (Asks q c) f caught h k = λ v. front_ends Q (c v) f caught (h.2 v) k

running_ends : (s : Proc) → EachEnds (StepEnds s) (running_phrase (record s { shadow = false }))
unfolding running_phrase instruction_phrase decoded_phrase
running_ends s =
    let before : Proc = record s { shadow = false } in
    front_ends (StepEnds s) (decode_phrase (first_reader before)) _ (faulted before) (looks_decode (first_reader before))
    (λ d.
    let next : ℕ = (s.eip + d.len) % 2 ^ 32 in
    tried_ends s next 160 d.op [] (operation_phrase d.op (at_eip before next)) (lawful_operation d.op (at_eip before next)))

done_ends : (Q : Attempt → List Ask → Proc → Type 0) (s : Proc) → EachEnds Q (Done s)
unfolding EachEnds
done_ends Q s = tt

turn_ends : (m : Mode) (s : Proc) → EachEnds (StepEnds s) (turn_phrase m (record s { shadow = false }))
turn_ends Running s = running_ends s
turn_ends Halted s = done_ends (StepEnds s) _
turn_ends Shutdown s = done_ends (StepEnds s) _

-- ---- a delivery

-- no attempt begins on any way through a phrase
unfoldable pub NoneBegins : {A : Type 0} → Phrase A → Type 0
NoneBegins (Done a) = Unit {0}
NoneBegins (Faults f) = Unit {0}
NoneBegins (Begins m t) = ⊥
NoneBegins (Asks q k) = (v : ℕ) → NoneBegins (k v)

none_ends : (Q : Attempt → List Ask → Proc → Type 0) (t : Phrase Proc) → NoneBegins t → EachEnds Q t
unfolding NoneBegins EachEnds
none_ends Q (Done a) h = tt
none_ends Q (Faults f) h = tt
none_ends Q (Begins m t) h = absurd h
none_ends Q (Asks q k) h = λ v. none_ends Q (k v) (h v)

none_next : {A : Type 0} (n : ℕ) (may : List Ask → Ask → Type 0) (ends : List Ask → A → Type 0) (us : List Ask) (t : Phrase A) (w : A → Proc) → Plain n may ends us t → NoneBegins (t >>= (λ a. Done (w a)))
unfolding Plain NoneBegins ◌>>=◌
none_next n may ends us (Done a) w h = tt
none_next n may ends us (Faults f) w h = tt
none_next n may ends us (Begins m t) w h = absurd h
none_next zero may ends us (Asks q k) w h = absurd h
none_next (suc n) may ends us (Asks q k) w h = λ v. none_next n may ends (cycle_of q v ∷ us) (k v) w (h.1 v)

-- a delivery whose event goes so through its gate
abbrev pub whole_delivery : Proc → Event → Phrase Executed → Phrase Proc
whole_delivery p e t = (either t Done (λ f. Done (Ran (ran p (Some f)))) >>= behind_gate_phrase e.code) >>= (λ r. Done (behind_delivery e r))

-- the gate is read
looks_words : (ps : List Piece) (joined : Bool) (value : ℕ) → Looks (word_reads roles.Idt joined value ps)
unfolding word_reads Looks ◌>>=◌
looks_words [] joined value = tt
looks_words (p ∷ ps) joined value = (refl, refl, λ v. looks_words ps true _)

looks_descriptor : (at : ℕ) → Looks (descriptor_phrase roles.Idt at)
unfolding descriptor_phrase
looks_descriptor at = looks_then _ _ (looks_words _ false 0) (λ lo. looks_then _ _ (looks_words _ true 0) (λ hi. looks_done _))

looks_entry : (p : Proc) (vector : ℕ) → Looks (entry_phrase p vector)
unfolding entry_phrase
looks_entry p vector = looks_if (is_in_table (vector * 8) p.idtr.limit) _ _ (looks_then _ _ (looks_descriptor ((p.idtr.base + vector * 8) % 2 ^ 32)) (λ d. looks_done _)) (looks_done None)

looks_need : (o : Option Fault) (t : Phrase Desc) → Looks t → Looks (need o t)
looks_need (Some x) t h = looks_faults Desc x
looks_need None t h = h

pub looks_gate : (p : Proc) (e : Event) → Looks (gate_phrase p e)
unfolding gate_phrase
looks_gate p e = looks_then _ _ (looks_entry p e.vector) (λ found. looks_need (first_broken event_gate_rules (gate_candidate p e found)) _ (looks_done _))

gate_ends : {A : Type 0} (Q : Attempt → List Ask → Proc → Type 0) (p : Proc) (e : Event) (t : Phrase A) (f : A → Phrase Executed) → Looks t → ((a : A) → EachEnds Q (whole_delivery p e (f a))) → EachEnds Q (whole_delivery p e (t >>= f))
unfolding Looks EachEnds ◌>>=◌ either
gate_ends Q p e (Done a) f h k = k a
gate_ends Q p e (Faults x) f h k = tt
gate_ends Q p e (Begins m t) f h k = absurd h
gate_ends Q p e (Asks q c) f h k = λ v. gate_ends Q p e (c v) f (h.2 v) k

-- what holds of both holds by the type of the gate
pub by_type : (R : Phrase Executed → Type 0) (b : Bool) (t u : Phrase Executed) → R t → R u → R (cond b t u)
by_type R true t u h k = h
by_type R false t u h k = k

-- a handler is entered
pub handler_none : (n : ℕ) (may : List Ask → Ask → Type 0) (ends : List Ask → Proc → Type 0) (us : List Ask) (p : Proc) (e : Event) (t : Phrase Proc) → Plain n may ends us t → NoneBegins (whole_delivery p e (simply t))
unfolding Plain NoneBegins simply ◌>>=◌ either
handler_none n may ends us p e (Done a) h = tt
handler_none n may ends us p e (Faults f) h = tt
handler_none n may ends us p e (Begins m t) h = absurd h
handler_none zero may ends us p e (Asks q k) h = absurd h
handler_none (suc n) may ends us p e (Asks q k) h = λ v. handler_none n may ends (cycle_of q v ∷ us) p e (k v) (h.1 v)

-- a task is entered: what the switch comes to, and the cycles behind it
record TaskCut (p : Proc) (e : Event) (x : Phrase Switched) (ts : List Ask) (s2 : Proc) : Type 0 where
  came : Switched
  own : List Ask
  behind : List Ask
  joined : ts ≡ own ++ behind
  found : follow x own ≡ Whole came []
  rest : follow (behind_task_phrase e came) behind ≡ Whole s2 []

task_cut : (P : Seen → Switched → Type 0) (g : Seen) (x : Phrase Switched) (p : Proc) (e : Event) (ts : List Ask) (s2 : Proc) → Shows P g x → follow (whole_delivery p e (x >>= came_whole)) ts ≡ Whole s2 [] → TaskCut p e x ts s2
unfolding Shows ◌>>=◌ either follow behind_task_phrase
task_cut P g (Done r) p e ts s2 h w = record { came = r; own = []; behind = ts; joined = refl; found = refl; rest = w }
task_cut P g (Faults f) p e ts s2 h w = absurd h
task_cut P g (Begins m t) p e ts s2 h w = absurd h
task_cut P g (Asks q k) p e [] s2 h w = cc
task_cut P g (Asks q k) p e (t ∷ ts) s2 h w = go (matches q t) refl (task_cut P (note g (cycle_of q (answer_of t))) (k (answer_of t)) p e ts s2 (h (answer_of t)))
  where
    go : (c : Bool) → matches q t ≡ c → (follow (whole_delivery p e (k (answer_of t) >>= came_whole)) ts ≡ Whole s2 [] → TaskCut p e (k (answer_of t)) ts s2) → TaskCut p e (Asks q k) (t ∷ ts) s2
    go true f ih =
        let d = ih (rw f at w) in
        let found : cond (matches q t) (follow (k (answer_of t)) d.own) Wrong ≡ Whole d.came [] = rw f d.found in
        record { came = d.came; own = t ∷ d.own; behind = d.behind; joined = ap (λ (us : List Ask). t ∷ us) d.joined; found = found; rest = d.rest }
    go false f ih = let d : Wrong ≡ Whole s2 [] = rw f at w in cc

pub task_none : (P : Seen → Switched → Type 0) (g : Seen) (x : Phrase Switched) (p : Proc) (e : Event) → Shows P g x → NoneBegins (whole_delivery p e (x >>= came_whole))
unfolding Shows NoneBegins ◌>>=◌ either
task_none P g (Done r) p e h = none_next 2 (Ordinary p.gdtr) Anything [] (behind_gate_phrase e.code (Came r)) (behind_delivery e) (plain_behind_gate p.gdtr [] e.code (Came r))
task_none P g (Faults f) p e h = absurd h
task_none P g (Begins m t) p e h = absurd h
task_none P g (Asks q k) p e h = λ v. task_none P (note g (cycle_of q v)) (k v) p e (h v)

task_ends : (s : Proc) (e : Event) (g : Desc) → due s ≡ Some e → EachEnds (StepEnds s) (whole_delivery (at_delivery s) e (switching_phrase (at_delivery s) (gate_brief e g)))
unfolding EachEnds switching_phrase switch_phrase ◌>>=◌ either
task_ends s e g is_due =
    let p : Proc = at_delivery s in
    let b = gate_brief e g in
    let known : Attempt = attempt_of p b.kind b.selector b.direct b.ext in
    let x : Phrase Switched = work_phrase p b.kind b.selector b.direct b.ext in
    let P : Seen → Switched → Type 0 = λ g r. EndsAs known g p r in
    let shows : Shows P nothing_seen x = work_shows p b.kind b.selector b.direct b.ext in (
      λ us s2 w.
          let d = task_cut P nothing_seen x p e us s2 shows w in
          record {
            begun = p;
            came = d.came;
            own = d.own;
            behind = d.behind;
            joined = d.joined;
            known = refl;
            ends = work_ends p b.kind b.selector b.direct b.ext d.own d.came d.found;
            leaves = inr (record { event = e; is_due = is_due; kind = refl; direct = refl; ext = refl; begins = refl; state = d.rest });
          },
      none_ends (StepEnds s) _ (task_none P nothing_seen x p e shows),
    )

delivery_ends : (s : Proc) (e : Event) → due s ≡ Some e → EachEnds (StepEnds s) (delivery_phrase (at_delivery s) e)
unfolding delivery_phrase deliver_phrase met_phrase entered_phrase
delivery_ends s e is_due =
    let p : Proc = at_delivery s in
    gate_ends (StepEnds s) p e (gate_phrase p e) _ (looks_gate p e)
    (λ g. by_type (λ t. EachEnds (StepEnds s) (whole_delivery p e t)) (leads_to_task (kind_of g)) _ _ (task_ends s e g is_due)
    (none_ends (StepEnds s) _ (handler_none 26 (Ordinary p.gdtr) (Keeps p) [] p e (through_phrase p e g) (plain_through p [] e g))))

event_ends : (o : Option Event) (s : Proc) → due s ≡ o → EachEnds (StepEnds s) (event_or_turn o s)
event_ends (Some e) s is_due = delivery_ends s e is_due
event_ends None s is_due = turn_ends s.mode s

-- the start
start_last : {B : Type 0} (P : Seen → Switched → Type 0) (g : Seen) (x : Phrase Switched) (w : Switched → B) (ts : List Ask) (b : B) → Shows P g x → follow (x >>= (λ r. Done (w r))) ts ≡ Whole b [] → (r : Switched) × (follow x ts ≡ Whole r []) × (b ≡ w r)
unfolding Shows ◌>>=◌ follow
start_last P g (Done r) w [] b h e = let i : w r ≡ b = cc in (r, refl, sym i)
start_last P g (Done r) w (t ∷ ts) b h e = cc
start_last P g (Faults f) w ts b h e = absurd h
start_last P g (Begins m t) w ts b h e = absurd h
start_last P g (Asks q k) w [] b h e = cc
start_last {B = B} P g (Asks q k) w (t ∷ ts) b h e = go (matches q t) refl (start_last P (note g (cycle_of q (answer_of t))) (k (answer_of t)) w ts b (h (answer_of t)))
  where
    go : (c : Bool) → matches q t ≡ c → (follow (k (answer_of t) >>= (λ r. Done (w r))) ts ≡ Whole b [] → (r : Switched) × (follow (k (answer_of t)) ts ≡ Whole r []) × (b ≡ w r)) → (r : Switched) × (cond (matches q t) (follow (k (answer_of t)) ts) Wrong ≡ Whole r []) × (b ≡ w r)
    go true f ih = let d = ih (rw f at e) in (d.0, rw f d.1, d.2)
    go false f ih = let d : Wrong ≡ Whole b [] = rw f at e in cc

start_alone : (Q : Attempt → List Ask → Proc → Type 0) (P : Seen → Switched → Type 0) (g : Seen) (x : Phrase Switched) (w : Switched → Proc) → Shows P g x → EachEnds Q (x >>= (λ r. Done (w r)))
unfolding Shows EachEnds ◌>>=◌
start_alone Q P g (Done r) w h = tt
start_alone Q P g (Faults f) w h = absurd h
start_alone Q P g (Begins m t) w h = absurd h
start_alone Q P g (Asks q k) w h = λ v. start_alone Q P (note g (cycle_of q v)) (k v) w (h v)

start_ends : (s : Proc) (selector : ℕ) → EachEnds (StepEnds s) (start_phrase s selector)
unfolding start_phrase switch_phrase EachEnds ◌>>=◌
start_ends s selector =
    let p : Proc = without_start s in
    let known : Attempt = attempt_of p switches.Start selector false false in
    let x : Phrase Switched = work_phrase p switches.Start selector false false in
    let P : Seen → Switched → Type 0 = λ g r. EndsAs known g p r in
    let shows : Shows P nothing_seen x = work_shows p switches.Start selector false false in (
      λ us s2 e.
          let d = start_last P nothing_seen x (behind_start p) us s2 shows e in
          record { begun = p; came = d.0; own = us; behind = []; joined = sym (append-nil us); known = refl; ends = work_ends p switches.Start selector false false us d.0 d.1; leaves = inl (record { next = 0; begins = refl; nothing = refl; state = d.2 }) },
      start_alone (StepEnds s) P nothing_seen x (behind_start p) shows,
    )

begun_ends : (start : Option ℕ) (s : Proc) → EachEnds (StepEnds s) (start_or_event start s)
begun_ends (Some selector) s = start_ends s selector
begun_ends None s = event_ends (due s) s refl

-- The law of a step, for what is laid before and behind it.
pub each_step_ends : (s : Proc) → EachEnds (StepEnds s) (step_phrase s)
unfolding step_phrase
each_step_ends s = begun_ends s.start s

-- Each attempt of a whole step ends so.
pub attempts_end : (s s2 : Proc) (ts : List Ask) → follow (step_phrase s) ts ≡ Whole s2 [] → AllByRecursion (λ (x : Attempt × List Ask). StepEnds s x.0 x.1 s2) (attempts (step_phrase s) ts)
attempts_end s s2 ts e = each_attempt (StepEnds s) (step_phrase s) ts s2 (each_step_ends s) e
