-- Attempts are found, and what holds of each.
use Rattle.std.proofs.Common.{◌≡◌, ℕ, Bool, true, false, cond, List, [], ◌∷◌, refl, subst}
use Rattle.std.specs.List.{AllByRecursion}
use Rattle.m386_base.specs.declared.ask.Ask.{Ask}
use Rattle.m386_base.specs.declared.kind.SwitchKind.{SwitchKind}
use Rattle.m386_base.specs.Bus.{cycle_of}
use Rattle.m386_base.specs.Laws.{attempts}
use Rattle.m386_base.specs.Phrase.{Phrase, Done, Faults, Asks, Begins, Attempt, ◌>>=◌, follow, Whole, Wrong, matches, answer_of}
use Rattle.m386_base.proofs.Matched.{cycle_matched}
use Rattle.m386_state.specs.declared.proc.Proc.{Proc}
use Rattle.m386_switch.specs.Attempts.{EachEnds, Outside, is_of_a_switch}
use Rattle.m386_switch.specs.Ends.{SwitchEnds, EndsAs}
use Rattle.m386_switch.specs.Seen.{Seen, note, nothing_seen}
use Rattle.m386_switch.specs.Switch.{attempt_of, switch_phrase, work_phrase}
use Rattle.m386_switch.proofs.Law.{work_ends}
use Rattle.m386_switch.proofs.Shows.{Shows}
use Rattle.m386_switch.proofs.Whole.{work_shows}

-- Each attempt in cycles that are a whole phrase ends so.
pub each_attempt : {A : Type 0} (Q : Attempt → List Ask → A → Type 0) (t : Phrase A) (ts : List Ask) (a : A) → EachEnds Q t → follow t ts ≡ Whole a [] → AllByRecursion (λ (x : Attempt × List Ask). Q x.0 x.1 a) (attempts t ts)
unfolding EachEnds attempts follow
each_attempt Q (Done b) ts a h e = tt
each_attempt Q (Faults f) ts a h e = tt
each_attempt Q (Begins m t) ts a h e = (h.0 ts a e, each_attempt Q t ts a h.1 e)
each_attempt Q (Asks q k) [] a h e = tt
each_attempt {A = A} Q (Asks q k) (t ∷ ts) a h e = go (matches q t) refl (each_attempt Q (k (answer_of t)) ts a (h (answer_of t)))
  where
    go : (b : Bool) → matches q t ≡ b → (follow (k (answer_of t)) ts ≡ Whole a [] → AllByRecursion (λ (x : Attempt × List Ask). Q x.0 x.1 a) (attempts (k (answer_of t)) ts)) → AllByRecursion (λ (x : Attempt × List Ask). Q x.0 x.1 a) (attempts (k (answer_of t)) ts)
    go true f ih = ih (rw f at e)
    go false f ih = let d : Wrong ≡ Whole a [] = rw f at e in cc

-- phrases laid end to end: what follows an attempt belongs to it
pub ends_then : {A B : Type 0} (Q : Attempt → List Ask → A → Type 0) (R : Attempt → List Ask → B → Type 0) (t : Phrase A) (f : A → Phrase B) → EachEnds Q t → ((a : A) → EachEnds R (f a))
    → ((m : Attempt) (u : Phrase A) → ((ts : List Ask) (a : A) → follow u ts ≡ Whole a [] → Q m ts a) → (ts : List Ask) (b : B) → follow (u >>= f) ts ≡ Whole b [] → R m ts b)
    → EachEnds R (t >>= f)
unfolding EachEnds ◌>>=◌
ends_then Q R (Done a) f h k l = k a
ends_then Q R (Faults x) f h k l = tt
ends_then Q R (Asks q c) f h k l = λ v. ends_then Q R (c v) f (h v) k l
ends_then Q R (Begins m t) f h k l = (l m t h.0, ends_then Q R t f h.1 k l)

-- the role of a cycle is that of its ask
same_role : (q : Ask) (v : ℕ) → (cycle_of q v).role ≡ q.role
unfolding cycle_of
same_role q v = go q.write
  where
    go : (b : Bool) → (cond b q (record q { value = v })).role ≡ q.role
    go true = refl
    go false = refl

outside_made : (q t : Ask) → matches q t ≡ true → is_of_a_switch q.role ≡ false → is_of_a_switch t.role ≡ false
outside_made q t m h = subst (λ (x : Ask). is_of_a_switch x.role ≡ false) (cycle_matched q t m) (rw (same_role q (answer_of t)) h)

-- a phrase that makes cycles of a switch has begun an attempt
pub no_cycle_outside : {A : Type 0} (t : Phrase A) (ts : List Ask) (a : A) → Outside t → follow t ts ≡ Whole a [] → attempts t ts ≡ [] → AllByRecursion (λ (x : Ask). is_of_a_switch x.role ≡ false) ts
unfolding Outside attempts follow
no_cycle_outside (Done b) [] a h e n = tt
no_cycle_outside (Done b) (x ∷ ts) a h e n = cc
no_cycle_outside (Faults f) ts a h e n = cc
no_cycle_outside (Begins m t) ts a h e n = cc
no_cycle_outside (Asks q k) [] a h e n = cc
no_cycle_outside {A = A} (Asks q k) (t ∷ ts) a h e n = go (matches q t) refl (no_cycle_outside (k (answer_of t)) ts a (h.1 (answer_of t)))
  where
    go : (b : Bool) → matches q t ≡ b → (follow (k (answer_of t)) ts ≡ Whole a [] → attempts (k (answer_of t)) ts ≡ [] → AllByRecursion (λ (x : Ask). is_of_a_switch x.role ≡ false) ts) → AllByRecursion (λ (x : Ask). is_of_a_switch x.role ≡ false) (t ∷ ts)
    go true f ih = (outside_made q t f h.0, ih (rw f at e) n)
    go false f ih = let d : Wrong ≡ Whole a [] = rw f at e in cc

-- a phrase of which something is shown begins no attempt
pub alone : {A : Type 0} (Q : Attempt → List Ask → A → Type 0) (P : Seen → A → Type 0) (g : Seen) (t : Phrase A) → Shows P g t → EachEnds Q t
unfolding Shows EachEnds
alone Q P g (Done a) h = tt
alone Q P g (Faults f) h = absurd h
alone Q P g (Begins m t) h = absurd h
alone Q P g (Asks q k) h = λ v. alone Q P (note g (cycle_of q v)) (k v) (h v)

-- The law of a switch, for what is laid before and behind it.
pub each_switch_ends : (p : Proc) (kind : SwitchKind) (selector : ℕ) (direct ext : Bool) → EachEnds (λ m ts r. SwitchEnds m ts p r) (switch_phrase p kind selector direct ext)
unfolding switch_phrase EachEnds
each_switch_ends p kind selector direct ext =
    (λ ts r e. work_ends p kind selector direct ext ts r e, alone (λ m ts r. SwitchEnds m ts p r) (λ g r. EndsAs (attempt_of p kind selector direct ext) g p r) nothing_seen (work_phrase p kind selector direct ext) (work_shows p kind selector direct ext))
