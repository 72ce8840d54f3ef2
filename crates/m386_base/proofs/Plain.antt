-- The combinators of the law that an operation owes, and what follows from it.
use Rattle.std.proofs.Common.{◌≡◌, ℕ, zero, suc, ◌+◌, ◌-◌, ◌≤◌, List, [], ◌∷◌, refl, subst, arith, cond, Bool, true, false}
use Rattle.m386_base.specs.declared.ask.Ask.{Ask}
use Rattle.m386_base.specs.declared.fault.Fault.{Fault}
use Rattle.m386_base.specs.Bus.{cycle_of}
use Rattle.m386_base.specs.Laws.{AtMost, Obeys, Turns, attempts}
use Rattle.m386_base.specs.Phrase.{Phrase, Done, Faults, Asks, Begins, ◌>>=◌, either, follow, Whole, Wrong, matches, answer_of}
use Rattle.m386_base.specs.Plain.{Plain, behind}
use Rattle.m386_base.proofs.Matched.{cycle_matched}

pub plain_done : {A : Type 0} (n : ℕ) (may : List Ask → Ask → Type 0) (ends : List Ask → A → Type 0) (ts : List Ask) (a : A) → ends ts a → Plain n may ends ts (Done a)
unfolding Plain
plain_done n may ends ts a h = h

pub plain_faults : {A : Type 0} (n : ℕ) (may : List Ask → Ask → Type 0) (ends : List Ask → A → Type 0) (ts : List Ask) (f : Fault) → Plain n may ends ts (Faults f)
unfolding Plain
plain_faults n may ends ts f = tt

-- more cycles are allowed
pub plain_more : {A : Type 0} (m n : ℕ) (may : List Ask → Ask → Type 0) (ends : List Ask → A → Type 0) (ts : List Ask) (t : Phrase A) → Plain m may ends ts t → Plain (m + n) may ends ts t
unfolding Plain
plain_more m n may ends ts (Done a) h = h
plain_more m n may ends ts (Faults f) h = tt
plain_more m n may ends ts (Begins x t) h = absurd h
plain_more zero n may ends ts (Asks q k) h = absurd h
plain_more (suc m) n may ends ts (Asks q k) h =
    let e : suc m + n ≡ suc (m + n) = omega arith in rw e (h.0, λ v. plain_more m n may ends (cycle_of q v ∷ ts) (k v) (h.1 v))

-- one phrase, and then the one that follows from what it found
pub plain_then : {A B : Type 0} (m n : ℕ) (may : List Ask → Ask → Type 0) (P : List Ask → A → Type 0) (Q : List Ask → B → Type 0) (ts : List Ask) (t : Phrase A) (f : A → Phrase B) → Plain m may P ts t → ((us : List Ask) (a : A) → P us a → Plain n may Q us (f a)) → Plain (m + n) may Q ts (t >>= f)
unfolding Plain ◌>>=◌
plain_then m n may P Q ts (Done a) f h k =
    let e : m + n ≡ n + m = omega arith in rw e (plain_more n m may Q ts (f a) (k ts a h))
plain_then m n may P Q ts (Faults x) f h k = tt
plain_then m n may P Q ts (Begins x t) f h k = absurd h
plain_then zero n may P Q ts (Asks q c) f h k = absurd h
plain_then (suc m) n may P Q ts (Asks q c) f h k =
    let e : suc m + n ≡ suc (m + n) = omega arith in rw e (h.0, λ v. plain_then m n may P Q (cycle_of q v ∷ ts) (c v) f (h.1 v) k)

-- the same, where a fault is caught
pub plain_either : {A B : Type 0} (m n : ℕ) (may : List Ask → Ask → Type 0) (P : List Ask → A → Type 0) (Q : List Ask → B → Type 0) (ts : List Ask) (t : Phrase A) (f : A → Phrase B) (g : Fault → Phrase B) → Plain m may P ts t → ((us : List Ask) (a : A) → P us a → Plain n may Q us (f a)) → ((us : List Ask) (x : Fault) → Plain n may Q us (g x)) → Plain (m + n) may Q ts (either t f g)
unfolding Plain either
plain_either m n may P Q ts (Done a) f g h k l =
    let e : m + n ≡ n + m = omega arith in rw e (plain_more n m may Q ts (f a) (k ts a h))
plain_either m n may P Q ts (Faults x) f g h k l =
    let e : m + n ≡ n + m = omega arith in rw e (plain_more n m may Q ts (g x) (l ts x))
plain_either m n may P Q ts (Begins x t) f g h k l = absurd h
plain_either zero n may P Q ts (Asks q c) f g h k l = absurd h
plain_either (suc m) n may P Q ts (Asks q c) f g h k l =
    let e : suc m + n ≡ suc (m + n) = omega arith in rw e (h.0, λ v. plain_either m n may P Q (cycle_of q v ∷ ts) (c v) f g (h.1 v) k l)

-- within a larger bound
pub plain_within : {A : Type 0} (m n : ℕ) (may : List Ask → Ask → Type 0) (ends : List Ask → A → Type 0) (ts : List Ask) (t : Phrase A) → m ≤ n → Plain m may ends ts t → Plain n may ends ts t
plain_within m n may ends ts t l h = let e : n ≡ m + (n - m) = omega arith in rw e (plain_more m (n - m) may ends ts t h)

-- a front of at most m cycles, and at most the others of n behind it
pub plain_bind : {A B : Type 0} (m n : ℕ) (may : List Ask → Ask → Type 0) (P : List Ask → A → Type 0) (Q : List Ask → B → Type 0) (ts : List Ask) (t : Phrase A) (f : A → Phrase B) → m ≤ n → Plain m may P ts t → ((us : List Ask) (a : A) → P us a → Plain (n - m) may Q us (f a)) → Plain n may Q ts (t >>= f)
plain_bind m n may P Q ts t f l h k = let e : n ≡ m + (n - m) = omega arith in rw e (plain_then m (n - m) may P Q ts t f h k)

-- either branch of a choice
pub plain_if : {A : Type 0} (n : ℕ) (may : List Ask → Ask → Type 0) (ends : List Ask → A → Type 0) (ts : List Ask) (b : Bool) (t u : Phrase A) → Plain n may ends ts t → Plain n may ends ts u → Plain n may ends ts (cond b t u)
plain_if n may ends ts true t u h k = h
plain_if n may ends ts false t u h k = k

-- weaker ends
pub plain_ends : {A : Type 0} (n : ℕ) (may : List Ask → Ask → Type 0) (P Q : List Ask → A → Type 0) (ts : List Ask) (t : Phrase A) → ((us : List Ask) (a : A) → P us a → Q us a) → Plain n may P ts t → Plain n may Q ts t
unfolding Plain
plain_ends n may P Q ts (Done a) k h = k ts a h
plain_ends n may P Q ts (Faults f) k h = tt
plain_ends n may P Q ts (Begins m t) k h = absurd h
plain_ends zero may P Q ts (Asks q c) k h = absurd h
plain_ends (suc n) may P Q ts (Asks q c) k h = (h.0, λ v. plain_ends n may P Q (cycle_of q v ∷ ts) (c v) k (h.1 v))

-- Its bound is one on cycles.
pub plain_at_most : {A : Type 0} (n : ℕ) (may : List Ask → Ask → Type 0) (ends : List Ask → A → Type 0) (ts : List Ask) (t : Phrase A) → Plain n may ends ts t → AtMost n t
unfolding Plain
plain_at_most n may ends ts (Done a) h = tt
plain_at_most n may ends ts (Faults f) h = tt
plain_at_most n may ends ts (Begins m t) h = absurd h
plain_at_most zero may ends ts (Asks q k) h = absurd h
plain_at_most (suc n) may ends ts (Asks q k) h = λ v. plain_at_most n may ends (cycle_of q v ∷ ts) (k v) (h.1 v)

-- No attempt of a task switch begins on any way through it.
pub plain_attempts : {A : Type 0} (n : ℕ) (may : List Ask → Ask → Type 0) (ends : List Ask → A → Type 0) (us : List Ask) (t : Phrase A) (ts : List Ask) → Plain n may ends us t → attempts t ts ≡ []
unfolding Plain attempts
plain_attempts n may ends us (Done a) ts h = refl
plain_attempts n may ends us (Faults f) ts h = refl
plain_attempts n may ends us (Begins m t) ts h = absurd h
plain_attempts n may ends us (Asks q k) [] h = refl
plain_attempts zero may ends us (Asks q k) (t ∷ ts) h = absurd h
plain_attempts (suc n) may ends us (Asks q k) (t ∷ ts) h = plain_attempts n may ends (cycle_of q (answer_of t) ∷ us) (k (answer_of t)) ts (h.1 (answer_of t))

-- It obeys any rule of states that allows what `may` allows. R ties the cycles of the operation to a state of the rule.
pub plain_obeys : {A S : Type 0} (n : ℕ) (may : List Ask → Ask → Type 0) (ends : List Ask → A → Type 0) (allowed : S → Ask → Type 0) (next : S → Ask → S) (P : S → A → Type 0) (F : S → Fault → Type 0) (R : List Ask → S → Type 0)
    → ((us : List Ask) (s : S) (q t : Ask) → R us s → may us q → matches q t ≡ true → allowed s t × R (cycle_of q (answer_of t) ∷ us) (next s t))
    → ((us : List Ask) (s : S) (a : A) → R us s → ends us a → P s a)
    → ((us : List Ask) (s : S) (f : Fault) → R us s → F s f)
    → (us : List Ask) (s : S) (t : Phrase A) → R us s → Plain n may ends us t → Obeys allowed next P F s t
unfolding Plain
plain_obeys n may ends allowed next P F R step done fault us s (Done a) r h = done us s a r h
plain_obeys n may ends allowed next P F R step done fault us s (Faults f) r h = fault us s f r
plain_obeys n may ends allowed next P F R step done fault us s (Begins m t) r h = absurd h
plain_obeys zero may ends allowed next P F R step done fault us s (Asks q k) r h = absurd h
plain_obeys (suc n) may ends allowed next P F R step done fault us s (Asks q k) r h = λ t m.
    let i = step us s q t r h.0 m in
    (i.0, plain_obeys n may ends allowed next P F R step done fault (cycle_of q (answer_of t) ∷ us) (next s t) (k (answer_of t)) i.1 (h.1 (answer_of t)))

-- Where a phrase is whole, its end holds of the very cycles that were made.
pub plain_whole : {A : Type 0} (n : ℕ) (may : List Ask → Ask → Type 0) (ends : List Ask → A → Type 0) (us : List Ask) (t : Phrase A) (a : A) (ts : List Ask) → Plain n may ends us t → follow t ts ≡ Whole a [] → ends (behind us ts) a
unfolding Plain follow
plain_whole n may ends us (Done b) a [] h e = let i : b ≡ a = cc in subst (ends us) i h
plain_whole n may ends us (Done b) a (t ∷ ts) h e = cc
plain_whole n may ends us (Faults f) a ts h e = cc
plain_whole n may ends us (Begins m t) a ts h e = absurd h
plain_whole zero may ends us (Asks q k) a ts h e = absurd h
plain_whole (suc n) may ends us (Asks q k) a [] h e = cc
plain_whole (suc n) may ends us (Asks q k) a (t ∷ ts) h e = go (matches q t) refl (plain_whole n may ends (cycle_of q (answer_of t) ∷ us) (k (answer_of t)) a ts (h.1 (answer_of t)))
  where
    go : (b : Bool) → matches q t ≡ b → (follow (k (answer_of t)) ts ≡ Whole a [] → ends (behind (cycle_of q (answer_of t) ∷ us) ts) a) → ends (behind (t ∷ us) ts) a
    go true f ih = subst (λ x. ends (behind (x ∷ us) ts) a) (cycle_matched q t f) (ih (rw f at e))
    go false f ih = let d : Wrong ≡ Whole a [] = rw f at e in cc

-- It makes turns from one stage to another, where each ask that `may` allows is one.
-- R ties the cycles of the operation to a stage.
pub plain_turns : {A S : Type 0} (n : ℕ) (may : List Ask → Ask → Type 0) (ends : List Ask → A → Type 0) (T : S → Ask → ℕ → S → Type 0) (P : S → A → Type 0) (F : S → Fault → Type 0) (R : List Ask → S → Type 0)
    → ((us : List Ask) (s : S) (q : Ask) (v : ℕ) → R us s → may us q → (s2 : S) × T s q v s2 × R (cycle_of q v ∷ us) s2)
    → ((us : List Ask) (s : S) (a : A) → R us s → ends us a → P s a)
    → ((us : List Ask) (s : S) (f : Fault) → R us s → F s f)
    → (us : List Ask) (s : S) (t : Phrase A) → R us s → Plain n may ends us t → Turns T P F s t
unfolding Plain Turns
plain_turns n may ends T P F R turn done fault us s (Done a) r h = done us s a r h
plain_turns n may ends T P F R turn done fault us s (Faults f) r h = fault us s f r
plain_turns n may ends T P F R turn done fault us s (Begins m t) r h = absurd h
plain_turns zero may ends T P F R turn done fault us s (Asks q k) r h = absurd h
plain_turns (suc n) may ends T P F R turn done fault us s (Asks q k) r h = λ v.
    let i = turn us s q v r h.0 in
    (i.0, i.1, plain_turns n may ends T P F R turn done fault (cycle_of q v ∷ us) i.0 (k v) i.2 (h.1 v))
