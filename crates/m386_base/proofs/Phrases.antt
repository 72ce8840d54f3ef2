-- Calls that follow one another on a bus.
use Rattle.std.proofs.Common.{◌≡◌, ℕ, List, [], ◌∷◌, ◌++◌, refl, sym, ◌∙◌, ap, append_assoc, append-nil, true, false, Bool, Option, Some, Result, Ok, Err, eqb, eq-eqb}
use Rattle.m386_base.specs.declared.ask.Ask.{Ask}
use Rattle.m386_base.specs.declared.fault.Fault.{Fault}
use Rattle.m386_base.specs.declared.fault.Stop.{Stop}
use Rattle.m386_base.specs.declared.fault.Break.{Break}
use Rattle.m386_base.specs.declared.fault.Break.TheVariants as breaks
use Rattle.m386_base.specs.Bus.{BusView, Answered, Stops, cycle_of, Answers, IsEnabled}
use Rattle.m386_base.specs.Phrase.{Phrase, Done, Faults, Begins, Attempt, ◌>>=◌, either, follow, follow->>=, follow-either, Whole, Wants, Leaves, SameBus, Completes, BreaksOff, IsBrokenAt, PerformsOrStops, it, Continues, Frees, IsJudged, matches, answer_of, one, agree}

then-same : {old mid new : BusView} → SameBus old mid → SameBus mid new → SameBus old new
then-same p q = record { stops = q.stops ∙ p.stops; pauses = q.pauses ∙ p.pauses; origin = q.origin ∙ p.origin }

pub completes_then : {A B : Type 0} (t : Phrase A) (f : A → Phrase B) {old mid new : BusView} {a : A} {b : B} → Completes t old mid a → Completes (f a) mid new b → Completes (t >>= f) old new b
completes_then t f {old = old} {a = a} p q = record {
  added = p.added ++ q.added;
  cycles = q.cycles ∙ ap (λ c. c ++ q.added) p.cycles ∙ append_assoc old.cycles p.added q.added;
  whole = λ rest. rw (follow->>= t f ((p.added ++ q.added) ++ rest), append_assoc p.added q.added rest, p.whole (q.added ++ rest)) (q.whole rest);
  same = then-same p.same q.same;
}

pub completes_done : {A : Type 0} (l : BusView) (a : A) → Completes (Done a) l l a
unfolding follow
completes_done l a = record {
  added = [];
  cycles = sym (append-nil l.cycles);
  whole = λ rest. refl;
  same = record { stops = refl; pauses = refl; origin = refl };
}

then-leaves : (old mid new : BusView) (b : Break) → SameBus old mid → Leaves mid new b → Leaves old new b
then-leaves old mid new (breaks.Fault x) p q = then-same p q
then-leaves old mid new (breaks.Stop s) p q = record {
  kept = q.kept;
  never_falls = rw (← p.stops) q.never_falls;
  rose = rw (← p.stops) q.rose;
  pauses = q.pauses ∙ p.pauses;
  origin = q.origin ∙ p.origin;
  why = rw (← p.pauses) q.why;
}

later : {A B : Type 0} (t : Phrase A) (f : A → Phrase B) (xs ys : List Ask) (w : Option Ask) (a : A) (b : Break) → ((rest : List Ask) → follow t (xs ++ rest) ≡ Whole a rest) → IsBrokenAt (f a) ys w b → IsBrokenAt (t >>= f) (xs ++ ys) w b
later t f xs ys w a (breaks.Fault x) p q = λ rest. rw (follow->>= t f ((xs ++ ys) ++ rest), append_assoc xs ys rest, p (ys ++ rest)) (q rest)
later t f xs ys w a (breaks.Stop s) p q = (q.0, rw (follow->>= t f (xs ++ ys), p ys) q.1, q.2)

pub breaks_later : {A B : Type 0} (t : Phrase A) (f : A → Phrase B) {old mid new : BusView} {a : A} {b : Break} → Completes t old mid a → BreaksOff (f a) mid new b → BreaksOff (t >>= f) old new b
breaks_later t f {old = old} {mid = mid} {new = new} {a = a} {b = b} p q = record {
  added = p.added ++ q.added;
  cycles = q.cycles ∙ ap (λ c. c ++ q.added) p.cycles ∙ append_assoc old.cycles p.added q.added;
  broken = later t f p.added q.added new.wanted a b p.whole q.broken;
  leaves = then-leaves old mid new b p.same q.leaves;
}

now : {A B : Type 0} (t : Phrase A) (f : A → Phrase B) (xs : List Ask) (w : Option Ask) (b : Break) → IsBrokenAt t xs w b → IsBrokenAt (t >>= f) xs w b
now t f xs w (breaks.Fault x) p = λ rest. rw (follow->>= t f (xs ++ rest), p rest) refl
now t f xs w (breaks.Stop s) p = (p.0, rw (follow->>= t f xs, p.1) refl, p.2)

pub breaks_now : {A B : Type 0} (t : Phrase A) (f : A → Phrase B) {old new : BusView} {b : Break} → BreaksOff t old new b → BreaksOff (t >>= f) old new b
breaks_now t f {new = new} {b = b} p = record { added = p.added; cycles = p.cycles; broken = now t f p.added new.wanted b p.broken; leaves = p.leaves }

pub breaks_at_fault : {A : Type 0} (l : BusView) (x : Fault) → BreaksOff {A = A} (Faults x) l l (breaks.Fault x)
unfolding follow
breaks_at_fault l x = record {
  added = [];
  cycles = sym (append-nil l.cycles);
  broken = λ rest. refl;
  leaves = record { stops = refl; pauses = refl; origin = refl };
}

pub completes_either : {A B : Type 0} (t : Phrase A) (f : A → Phrase B) (g : Fault → Phrase B) {old mid new : BusView} {a : A} {b : B} → Completes t old mid a → Completes (f a) mid new b → Completes (either t f g) old new b
completes_either t f g {old = old} {a = a} p q = record {
  added = p.added ++ q.added;
  cycles = q.cycles ∙ ap (λ c. c ++ q.added) p.cycles ∙ append_assoc old.cycles p.added q.added;
  whole = λ rest. rw (follow-either t f g ((p.added ++ q.added) ++ rest), append_assoc p.added q.added rest, p.whole (q.added ++ rest)) (q.whole rest);
  same = then-same p.same q.same;
}

pub completes_caught : {A B : Type 0} (t : Phrase A) (f : A → Phrase B) (g : Fault → Phrase B) {old mid new : BusView} {x : Fault} {b : B} → BreaksOff t old mid (breaks.Fault x) → Completes (g x) mid new b → Completes (either t f g) old new b
completes_caught t f g {old = old} {x = x} p q = record {
  added = p.added ++ q.added;
  cycles = q.cycles ∙ ap (λ c. c ++ q.added) p.cycles ∙ append_assoc old.cycles p.added q.added;
  whole = λ rest. rw (follow-either t f g ((p.added ++ q.added) ++ rest), append_assoc p.added q.added rest, p.broken (q.added ++ rest)) (q.whole rest);
  same = then-same p.leaves q.same;
}

pub breaks_either : {A B : Type 0} (t : Phrase A) (f : A → Phrase B) (g : Fault → Phrase B) {old new : BusView} {s : Stop} → BreaksOff t old new (breaks.Stop s) → BreaksOff (either t f g) old new (breaks.Stop s)
breaks_either t f g p = record { added = p.added; cycles = p.cycles; broken = (p.broken.0, rw (follow-either t f g p.added, p.broken.1) refl, p.broken.2); leaves = p.leaves }

agree-same : (b : Bool) → agree b b ≡ true
agree-same true = refl
agree-same false = refl

eqb-same : (n : ℕ) → eqb n n ≡ true
eqb-same n = eq-eqb n n refl

-- the cycle that is made of an ask matches it
pub matches-cycle_of : (q : Ask) (v : ℕ) → IsEnabled q.enables v → matches q (cycle_of q v) ≡ true
unfolding matches cycle_of
matches-cycle_of q v e = go q.write refl
  where
    go : (b : Bool) → q.write ≡ b → matches q (cycle_of q v) ≡ true
    go true h = simp (h, eqb-same, agree-same)
    go false h = simp (h, eqb-same, agree-same, e)

answer_of-cycle_of : (q : Ask) (v : ℕ) → (q.write ≡ true → v ≡ 0) → answer_of (cycle_of q v) ≡ v
unfolding answer_of cycle_of
answer_of-cycle_of q v z = go q.write refl
  where
    go : (b : Bool) → q.write ≡ b → answer_of (cycle_of q v) ≡ v
    go true h = simp (h) (sym (z h))
    go false h = simp (h)

pub completes_one : {q : Ask} {keep : Bool} {old new : BusView} {v : ℕ} → Answered q keep old new v → Completes (one q) old new v
unfolding follow
completes_one {q = q} {v = v} p = record {
  added = cycle_of q v ∷ [];
  cycles = ap (λ (l : BusView). l.cycles) p.view;
  whole = λ rest. rw (matches-cycle_of q v p.value, answer_of-cycle_of q v p.none) refl;
  same = record { stops = ap (λ (l : BusView). l.stops) p.view; pauses = ap (λ (l : BusView). l.pauses) p.view; origin = ap (λ (l : BusView). l.origin) p.view };
}

pub breaks_one : (q : Ask) {old new : BusView} {s : Stop} → Stops q old new s → BreaksOff (one q) old new (breaks.Stop s)
unfolding follow
breaks_one q {old = old} p = record {
  added = [];
  cycles = p.cycles ∙ sym (append-nil old.cycles);
  broken = (q, refl, p.wanted);
  leaves = record { kept = p.kept; never_falls = p.never_falls; rose = p.rose; pauses = p.pauses; origin = p.origin; why = p.why };
}

-- what a bus answers is what is added on it
pub performs_answer : (q : Ask) (keep : Bool) (old new : BusView) (r : Result ℕ Stop) → Answers q keep old new r → PerformsOrStops (one q) old new it r
performs_answer q keep old new (Ok v) p = completes_one {keep = keep} p
performs_answer q keep old new (Err s) p = breaks_one q p

-- a note makes no cycle
pub completes_begins : {A : Type 0} {old new : BusView} {a : A} (m : Attempt) (t : Phrase A) → Completes t old new a → Completes (Begins m t) old new a
unfolding follow
completes_begins m t p = record { added = p.added; cycles = p.cycles; whole = p.whole; same = p.same }

begins-broken : {A : Type 0} (m : Attempt) (t : Phrase A) (xs : List Ask) (w : Option Ask) (b : Break) → IsBrokenAt t xs w b → IsBrokenAt (Begins m t) xs w b
unfolding follow
begins-broken m t xs w (breaks.Fault x) p = p
begins-broken m t xs w (breaks.Stop s) p = p

pub breaks_begins : {A : Type 0} {old new : BusView} {b : Break} (m : Attempt) (t : Phrase A) → BreaksOff t old new b → BreaksOff (Begins m t) old new b
breaks_begins {new = new} {b = b} m t p = record { added = p.added; cycles = p.cycles; broken = begins-broken m t p.added new.wanted b p.broken; leaves = p.leaves }

-- a phrase that is over where the bus has been freed
pub completes_freed : {A : Type 0} {old new : BusView} (a : A) → Frees old new → Completes (Done a) old new a
unfolding follow
completes_freed {old = old} a p = record {
  added = [];
  cycles = p.cycles ∙ sym (append-nil old.cycles);
  whole = λ rest. refl;
  same = p.same;
}

-- a fault that is found where the bus has been freed
pub breaks_freed : {A : Type 0} {old new : BusView} (x : Fault) → Frees old new → BreaksOff {A = A} (Faults x) old new (breaks.Fault x)
unfolding follow
breaks_freed {old = old} x p = record {
  added = [];
  cycles = p.cycles ∙ sym (append-nil old.cycles);
  broken = λ rest. refl;
  leaves = p.same;
}

-- the same for calls that may free a kept bus
pub ruleset held = (completes_then, completes_done, breaks_later, breaks_now, breaks_at_fault, completes_freed, breaks_freed)

-- how calls follow one another on a bus
pub ruleset calls = (completes_then, completes_done, breaks_later, breaks_now, breaks_at_fault)

-- the same where a fault is caught
pub ruleset caught = (completes_either, completes_caught, breaks_either, completes_done)

-- A turn of a loop: its first phrase was added, the others are left.
pub continues_on : {A X : Type 0} {whole rest : Phrase A} {old now next : BusView} (t : Phrase X) (f : X → Phrase A) {x : X} → Continues whole old rest now → rest ≡ (t >>= f) → Completes t now next x → Continues whole old (f x) next
continues_on t f h e p = record {
  completes = λ new a q. h.completes new a (rw e (completes_then t f p q));
  breaks = λ new b q. h.breaks new b (rw e (breaks_later t f p q));
}

-- a loop that is broken off in its turn's first phrase
pub continues_broken : {A X : Type 0} {whole rest : Phrase A} {old now new : BusView} (t : Phrase X) (f : X → Phrase A) {b : Break} → Continues whole old rest now → rest ≡ (t >>= f) → BreaksOff t now new b → BreaksOff whole old new b
continues_broken t f h e p = h.breaks _ _ (rw e (breaks_now t f p))

-- a loop that has come to its end
pub continues_end : {A : Type 0} {whole rest : Phrase A} {old now : BusView} {a : A} → Continues whole old rest now → rest ≡ Done a → Completes whole old now a
continues_end {now = now} {a = a} h e = h.completes _ _ (rw e (completes_done now a))

-- The whole of a phrase was added, and nothing more.
pub completes_judged : {A : Type 0} (t : Phrase A) (old new : BusView) (a : A) → Completes t old new a → IsJudged t old new (Whole a [])
completes_judged t old new a p = (p.added, p.cycles, ap (follow t) (sym (append-nil p.added)) ∙ p.whole [])

-- It was stopped where it wants more.
pub breaks_judged : {A : Type 0} (t : Phrase A) (old new : BusView) (s : Stop) → BreaksOff t old new (breaks.Stop s) → (q : Ask) × IsJudged t old new (Wants q) × (new.wanted ≡ Some q)
breaks_judged t old new s p = (p.broken.0, (p.added, p.cycles, p.broken.1), p.broken.2)

-- a phrase that begins with a note
pub ruleset begun = (completes_begins, breaks_begins)
