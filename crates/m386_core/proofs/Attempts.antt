-- Each attempt at a task switch in a run ends whole or at the first row that fails.
use Rattle.std.proofs.Common.{◌≡◌, ℕ, zero, suc, ◌+◌, ◌<◌, true, false, List, [], ◌∷◌, ◌++◌, length, Option, Some, None, refl, sym, ap, subst, ◌∙◌, arith, append_assoc, inl, inr}
use Rattle.std.specs.Prelude.{IsSome, ◌||◌, slice_get}
use Rattle.std.specs.List.{AllByRecursion, Contains, flat_map}
use Rattle.std.proofs.lemmas.Bool.{or_parts}
use Rattle.std.proofs.lemmas.List.Elements.{Contains-append_cases}
use Rattle.m386_base.specs.declared.ask.Ask.{Ask}
use Rattle.m386_base.specs.declared.ask.Cycle.{Cycle}
use Rattle.m386_base.specs.declared.ask.Role.{Role}
use Rattle.m386_base.specs.declared.ask.Role.TheVariants as roles
use Rattle.m386_base.specs.Phrase.{Attempt, Done, ◌>>=◌, follow, Whole}
use Rattle.m386_base.proofs.Members.{contains_cases, contains_first, contains_later}
use Rattle.m386_checks.specs.declared.facts.Fail.{Fail}
use Rattle.m386_checks.specs.declared.facts.Facts.{Facts}
use Rattle.m386_checks.specs.First.{first_fail_of, old_fail_of}
use Rattle.m386_checks.proofs.Meaning.{old_is_first}
use Rattle.m386_deliver.specs.Deliver.{by_rows_phrase}
use Rattle.m386_image.specs.declared.image.Image.{Image}
use Rattle.m386_memory.specs.History.{cycles_of}
use Rattle.m386_memory.specs.declared.ended.ProcEnd.{ProcEnd}
use Rattle.m386_state.specs.declared.event.Event.{Event}
use Rattle.m386_state.specs.declared.proc.Proc.{Proc}
use Rattle.m386_switch.specs.Attempts.{is_of_a_switch}
use Rattle.m386_switch.specs.declared.outcome.Switched.{Switched}
use Rattle.m386_switch.specs.Ends.{EndsBy}
use Rattle.m386_switch.specs.Seen.{Seen, seen, seen_from, nothing_seen, note, by_role, facts_of}
use Rattle.m386_step.specs.Events.{behind_delivery, behind_task_phrase}
use Rattle.m386_step.specs.Run.{Run, start_of, plan_of}
use Rattle.m386_step.specs.Step.{Follow, step_phrase}
use Rattle.m386_step.specs.StepEnds.{StepEnds, IsBehindReads}
use Rattle.m386_step.specs.Steps.{Plan, Steps, requested, planned}
use Rattle.m386_step.proofs.Standing.{attempts_stand, none_outside}
use Rattle.m386_step.proofs.StepAttempts.{attempts_end}
use Rattle.m386_core.specs.Switches.{Made, AreMade, AreStepsOf, attempts_in, FailsInOldTask, AttemptEnds, EndsItsSwitches, SwitchesEnd, StandsInAttempt}
use Rattle.m386_core.proofs.Cuts.{cut_front, one_front}

-- ---- lists

-- what stands in lists laid end to end stands in one of them
pub contains_flat : {X A : Type 0} (f : X → List A) (xs : List X) (a : A) → Contains (flat_map f xs) a → (x : X) × Contains xs x × Contains (f x) a
contains_flat f [] a h = absurd (omega (arith, h.1))
contains_flat {X = X} {A = A} f (x ∷ xs) a h = elim (Contains-append_cases (f x) (flat_map f xs) a h) [
  | inl c ↦ (x, contains_first x xs, c)
  | inr c ↦ let w = contains_flat f xs a c in (w.0, contains_later x xs w.0 w.1, w.2)
]

-- what holds of each holds of one that stands there
pub all_contained : {X : Type 0} (P : X → Type 0) (xs : List X) (x : X) → AllByRecursion P xs → Contains xs x → P x
all_contained P [] x h c = absurd (omega (arith, c.1))
all_contained {X = X} P (y ∷ ys) x h c = elim (contains_cases y ys x c) [
  | inl e ↦ subst P e h.0
  | inr d ↦ all_contained P ys x h.1 d
]

-- what holds of each of two lists holds of each of both
all_of_both : {X : Type 0} (P : X → Type 0) (xs ys : List X) → AllByRecursion P xs → AllByRecursion P ys → AllByRecursion P (xs ++ ys)
all_of_both P [] ys h k = k
all_of_both P (x ∷ xs) ys h k = (h.0, all_of_both P xs ys h.1 k)

weaker : {X : Type 0} (P Q : X → Type 0) → ((x : X) → P x → Q x) → (xs : List X) → AllByRecursion P xs → AllByRecursion Q xs
weaker P Q w [] h = tt
weaker P Q w (x ∷ xs) h = (w x h.0, weaker P Q w xs h.1)

-- ---- cycles that write nothing

-- what is seen of a cycle remembers whether it was a write
wrote_of : (r : Role) (t : Ask) (g : Seen) → (by_role r t g).wrote ≡ g.wrote
wrote_of roles.Fetch t g = refl
wrote_of roles.Operand t g = refl
wrote_of roles.Push t g = refl
wrote_of roles.Pop t g = refl
wrote_of roles.Flags t g = refl
wrote_of roles.Gdt t g = refl
wrote_of roles.Ldt t g = refl
wrote_of roles.Idt t g = refl
wrote_of roles.GdtAcc t g = refl
wrote_of roles.LdtAcc t g = refl
wrote_of roles.Tss t g = refl
wrote_of roles.ClaimJmp t g = refl
wrote_of roles.ClaimCall t g = refl
wrote_of roles.ClaimStart t g = refl
wrote_of roles.ClaimLtr t g = refl
wrote_of roles.Save t g = refl
wrote_of roles.Link t g = refl
wrote_of roles.Back t g = refl
wrote_of roles.RelJmp t g = refl
wrote_of roles.RelRet t g = refl
wrote_of roles.Load t g = refl
wrote_of roles.Inner t g = refl
wrote_of roles.Map t g = refl
wrote_of roles.Lgdt t g = refl
wrote_of roles.Lidt t g = refl

no_write_from : (g : Seen) (ts : List Ask) → (seen_from g ts).wrote ≡ false → (g.wrote ≡ false) × AllByRecursion (λ (t : Ask). t.write ≡ false) ts
unfolding seen_from note
no_write_from g [] e = (e, tt)
no_write_from g (t ∷ ts) e =
    let h = no_write_from (note g t) ts e in
    let w : (t.write || g.wrote) ≡ false = sym (wrote_of t.role t (record g { wrote = t.write || g.wrote })) ∙ h.0 in
    let both = or_parts t.write g.wrote w in
    (both.1, (both.0, h.1))

kept_reads : (m : Attempt) (ts : List Ask) (f : Facts) (s after : Proc) (o : Option Fail) → IsSome o → EndsBy m (seen ts) f s after o → AllByRecursion (λ (t : Ask). t.write ≡ false) ts
unfolding seen
kept_reads m ts f s after None some h = let d : false ≡ true = some in cc
kept_reads m ts f s after (Some x) some h = (no_write_from nothing_seen ts h.read).1

-- where one of rows 1 to 7 fails, the whole step writes nothing
-- Behind a switch of an event of which a row failed there is no cycle.
none_behind : (e : Event) (came : Switched) (x : Fail) (ts : List Ask) (s2 : Proc) → came.fail ≡ Some x → follow (behind_task_phrase e came) ts ≡ Whole s2 [] → ts ≡ []
unfolding behind_task_phrase ◌>>=◌ follow
none_behind e came x ts s2 fails h = go came.fail fails ts h
  where
    go : (o : Option Fail) → o ≡ Some x → (us : List Ask) → follow (by_rows_phrase o came.after e.code >>= (λ r. Done (behind_delivery e r))) us ≡ Whole s2 [] → us ≡ []
    go None f us w = cc
    go (Some y) f [] w = refl
    go (Some y) f (u ∷ us) w = cc

nothing_behind : (x : Made) (m : Attempt) (us : List Ask) (e : StepEnds x.before m us x.after) (fail : Fail) → e.came.fail ≡ Some fail → e.behind ≡ []
nothing_behind x m us e fail fails = elim e.leaves [
  | inl a ↦ a.nothing
  | inr d ↦ none_behind d.event e.came fail e.behind x.after fails d.state
]

fails_first : (f : Facts) (o : Option Fail) → old_fail_of f ≡ o → IsSome o → (x : Fail) × (first_fail_of f ≡ Some x)
fails_first f None e some = let d : false ≡ true = some in cc
fails_first f (Some x) e some = (x, old_is_first f x e)

quiet_step : (x : Made) (m : Attempt) (us : List Ask) (e : StepEnds x.before m us x.after) → IsBehindReads x.cycles us → FailsInOldTask m e.own → AllByRecursion (λ (t : Ask). t.write ≡ false) x.cycles
quiet_step x m us e b some =
    let P : Ask → Type 0 = λ t. t.write ≡ false in
    let front : AllByRecursion P b.before = weaker (λ (t : Ask). (t.write ≡ false) × (is_of_a_switch t.role ≡ false)) P (λ t h. h.0) b.before b.reads in
    let f : Facts = facts_of m (seen e.own) in
    let own : AllByRecursion P e.own = kept_reads m e.own f e.begun e.came.after (old_fail_of f) some e.ends.ends in
    let first = fails_first f (old_fail_of f) refl some in
    let behind : AllByRecursion P e.behind = subst (AllByRecursion P) (sym (nothing_behind x m us e first.0 (e.ends.first ∙ first.1))) tt in
    let all : AllByRecursion P us = subst (AllByRecursion P) (sym e.joined) (all_of_both P e.own e.behind own behind) in
    subst (AllByRecursion P) (sym b.joined) (all_of_both P b.before us front all)

-- ---- a whole step

both_hold : {X : Type 0} (P Q R : X → Type 0) → ((x : X) → P x → Q x → R x) → (xs : List X) → AllByRecursion P xs → AllByRecursion Q xs → AllByRecursion R xs
both_hold P Q R w [] h k = tt
both_hold P Q R w (x ∷ xs) h k = (w x h.0 k.0, both_hold P Q R w xs h.1 k.1)

step_ends : (x : Made) → Follow x.before x.cycles ≡ Whole x.after [] → EndsItsSwitches x
step_ends x e = record {
  each = both_hold (λ (a : Attempt × List Ask). StepEnds x.before a.0 a.1 x.after) (λ (a : Attempt × List Ask). IsBehindReads x.cycles a.1) (λ (a : Attempt × List Ask). AttemptEnds x a.0 a.1)
      (λ a h b. record { ends = h; behind = b; quiet = quiet_step x a.0 a.1 h b }) (attempts_in x) (attempts_end x.before x.after x.cycles e) (attempts_stand x.before x.after x.cycles e);
  none_else = λ n. none_outside x.before x.after x.cycles e n;
}

-- ---- a run

-- the steps of a processor, one by one
pub record CutSteps (q : Plan) (j : ℕ) (s : Proc) (ts : List Ask) : Type 0 where
  pub steps : List Made
  pub made : AreMade q j s steps
  pub cycles : flat_map (λ (x : Made). x.cycles) steps ≡ ts
  pub ends : AllByRecursion EndsItsSwitches steps

cut_steps : (k : ℕ) (q : Plan) (j : ℕ) (s s2 : Proc) (ts : List Ask) → Steps k q j s ts s2 → CutSteps q j s ts
unfolding Steps AreMade
cut_steps zero q j s s2 ts h = record { steps = []; made = tt; cycles = sym h.0; ends = tt }
cut_steps (suc k) q j s s2 ts (lives, mid, rest, whole, later) =
    let f = cut_front (step_phrase (requested q j s)) mid ts rest whole in
    let w = cut_steps k (planned q j s) (j + 1) mid s2 rest later in
    let x : Made = record { before = requested q j s; cycles = f.own; after = mid } in
    record {
      steps = x ∷ w.steps;
      made = (refl, f.whole, w.made);
      cycles = ap (λ (us : List Ask). f.own ++ us) w.cycles ∙ sym f.cut;
      ends = (step_ends x f.whole, w.ends);
    }

ended_of : (E : List (ProcEnd Proc)) (p : ℕ) → p < length E → (e : ProcEnd Proc) × (slice_get E p ≡ Some e)
ended_of [] p lt = absurd (omega arith)
ended_of (e ∷ E) zero lt = (e, refl)
ended_of (e ∷ E) (suc p) lt = ended_of E p (omega arith)

pub run_switches_end : (I : Image) (c n : ℕ) (H : List Cycle) (E : List (ProcEnd Proc)) → Run I c n H E → SwitchesEnd I c H
run_switches_end I c n H E run = record {
  each = λ p lt.
      let e = ended_of E p (omega (arith, run.count, lt)) in
      let w = cut_steps e.0.steps (plan_of I p) 0 (start_of I p) e.0.after (cycles_of p H) (run.walks p e.0 e.1).steps in
      (w.steps, record { made = w.made; cycles = w.cycles }, w.ends);
}

-- ---- the steps of a history are found in one way

one_cut : (q : Plan) (j : ℕ) (s : Proc) (xs ys : List Made) (more rest : List Ask) → AreMade q j s xs → AreMade q j s ys
    → flat_map (λ (x : Made). x.cycles) xs ++ more ≡ flat_map (λ (x : Made). x.cycles) ys ++ rest → length xs ≡ length ys → xs ≡ ys
unfolding AreMade
one_cut q j s [] [] more rest h k e l = refl
one_cut q j s [] (y ∷ ys) more rest h k e l = absurd (omega (arith, l))
one_cut q j s (x ∷ xs) [] more rest h k e l = absurd (omega (arith, l))
one_cut q j s (x ∷ xs) (y ∷ ys) more rest h k e l =
    let b : x.before ≡ y.before = h.0 ∙ sym k.0 in
    let later = λ (zs : List Made). flat_map (λ (x : Made). x.cycles) zs in
    let c : x.cycles ++ (later xs ++ more) ≡ y.cycles ++ (later ys ++ rest) = sym (append_assoc x.cycles (later xs) more) ∙ e ∙ append_assoc y.cycles (later ys) rest in
    let w : follow (step_phrase x.before) y.cycles ≡ Whole y.after [] = rw b k.1 in
    let f = one_front (step_phrase x.before) x.after y.after x.cycles y.cycles (later xs ++ more) (later ys ++ rest) h.1 w c in
    let i : xs ≡ ys = one_cut (planned q j s) (j + 1) x.after xs ys more rest h.2 (rw f.found k.2) f.rest_same (omega (arith, l)) in
    rw (b, f.cycles, f.found, i) refl

pub one_way : (I : Image) (H : List Cycle) (p : ℕ) (xs ys : List Made) → AreStepsOf I H p xs → AreStepsOf I H p ys → length xs ≡ length ys → xs ≡ ys
one_way I H p xs ys h k l =
    one_cut (plan_of I p) 0 (start_of I p) xs ys [] [] h.made k.made (ap (λ (ts : List Ask). ts ++ []) (h.cycles ∙ sym k.cycles)) l

-- ---- cycles of a switch stand in attempts

not_of_a_switch : (ts : List Ask) (t : Ask) → AllByRecursion (λ (x : Ask). is_of_a_switch x.role ≡ false) ts → Contains ts t → is_of_a_switch t.role ≡ true → ⊥
not_of_a_switch ts t h c e =
    let f : is_of_a_switch t.role ≡ false = all_contained (λ (x : Ask). is_of_a_switch x.role ≡ false) ts t h c in
    let d : true ≡ false = sym e ∙ f in
    cc

stands_in : (x : Made) (t : Ask) → Contains x.cycles t → is_of_a_switch t.role ≡ true → (found : List (Attempt × List Ask)) → attempts_in x ≡ found → EndsItsSwitches x → (a : Attempt × List Ask) × Contains (attempts_in x) a × Contains a.1 t
stands_in x t c e [] n h = absurd (not_of_a_switch x.cycles t (h.none_else n) c e)
stands_in x t c e (a ∷ others) n h =
    let all : AllByRecursion (λ (b : Attempt × List Ask). AttemptEnds x b.0 b.1) (a ∷ others) = rw n at h.each in
    let b = all.0.behind in
    let here : Contains (attempts_in x) a = subst (λ (l : List (Attempt × List Ask)). Contains l a) (sym n) (contains_first a others) in
    elim (Contains-append_cases b.before a.1 t (subst (λ (l : List Ask). Contains l t) b.joined c)) [
      | inl before ↦ absurd (not_of_a_switch b.before t (weaker (λ (t : Ask). (t.write ≡ false) × (is_of_a_switch t.role ≡ false)) (λ (t : Ask). is_of_a_switch t.role ≡ false) (λ t h. h.1) b.before b.reads) before e)
      | inr own ↦ (a, here, own)
    ]

pub stands_in_attempt : (I : Image) (c : ℕ) (H : List Cycle) (p : ℕ) (t : Ask) → SwitchesEnd I c H → p < c → Contains (cycles_of p H) t → is_of_a_switch t.role ≡ true → StandsInAttempt I H p t
stands_in_attempt I c H p t all lt has e =
    let w = all.each p lt in
    let x = contains_flat (λ (x : Made). x.cycles) w.0 t (subst (λ (l : List Ask). Contains l t) (sym w.1.cycles) has) in
    let a = stands_in x.0 t x.2 e (attempts_in x.0) refl (all_contained EndsItsSwitches w.0 x.0 w.2 x.1) in
    record { steps = w.0; made = w.1; step = x.0; is_step = x.1; attempt = a.0; is_attempt = a.1; stands = a.2 }
