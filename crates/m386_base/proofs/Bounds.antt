-- Phrases laid end to end, and what holds of them.
use Rattle.std.proofs.Common.{◌≡◌, ℕ, zero, suc, ◌+◌, ◌-◌, ◌≤◌, cond, List, [], ◌∷◌, ◌++◌, length, refl, subst, arith, true, false, Bool}
use Rattle.m386_base.specs.declared.ask.Ask.{Ask}
use Rattle.m386_base.specs.declared.fault.Fault.{Fault}
use Rattle.m386_base.specs.Phrase.{Phrase, Done, Faults, Asks, Begins, ◌>>=◌, either, follow, Whole, Faulted, Wants, Wrong, matches, answer_of}
use Rattle.m386_base.specs.Laws.{AtMost, Obeys, Sound}

-- more is allowed
pub at_most_more : {A : Type 0} (m n : ℕ) (t : Phrase A) → AtMost m t → AtMost (m + n) t
at_most_more m n (Done a) h = tt
at_most_more m n (Faults f) h = tt
at_most_more m n (Begins x t) h = at_most_more m n t h
at_most_more zero n (Asks q k) h = absurd h
at_most_more (suc m) n (Asks q k) h =
    let e : suc m + n ≡ suc (m + n) = omega arith in rw e (λ v. at_most_more m n (k v) (h v))

pub at_most_then : {A B : Type 0} (m n : ℕ) (t : Phrase A) (f : A → Phrase B) → AtMost m t → ((a : A) → AtMost n (f a)) → AtMost (m + n) (t >>= f)
unfolding ◌>>=◌
at_most_then m n (Done a) f h k =
    let e : m + n ≡ n + m = omega arith in rw e (at_most_more n m (f a) (k a))
at_most_then m n (Faults x) f h k = tt
at_most_then m n (Begins x t) f h k = at_most_then m n t f h k
at_most_then zero n (Asks q c) f h k = absurd h
at_most_then (suc m) n (Asks q c) f h k =
    let e : suc m + n ≡ suc (m + n) = omega arith in rw e (λ v. at_most_then m n (c v) f (h v) k)

-- a phrase with what follows from its end and from its fault
pub at_most_either : {A B : Type 0} (m n : ℕ) (t : Phrase A) (f : A → Phrase B) (g : Fault → Phrase B) → AtMost m t → ((a : A) → AtMost n (f a)) → ((x : Fault) → AtMost n (g x)) → AtMost (m + n) (either t f g)
unfolding either
at_most_either m n (Done a) f g h k l =
    let e : m + n ≡ n + m = omega arith in rw e (at_most_more n m (f a) (k a))
at_most_either m n (Faults x) f g h k l =
    let e : m + n ≡ n + m = omega arith in rw e (at_most_more n m (g x) (l x))
at_most_either m n (Begins x t) f g h k l = at_most_either m n t f g h k l
at_most_either zero n (Asks q c) f g h k l = absurd h
at_most_either (suc m) n (Asks q c) f g h k l =
    let e : suc m + n ≡ suc (m + n) = omega arith in rw e (λ v. at_most_either m n (c v) f g (h v) k l)

-- a larger bound holds as well
pub at_most_within : {A : Type 0} (m n : ℕ) (t : Phrase A) → m ≤ n → AtMost m t → AtMost n t
at_most_within m n t l h = let e : n ≡ m + (n - m) = omega arith in rw e (at_most_more m (n - m) t h)

-- either branch of a choice
pub at_most_if : {A : Type 0} (n : ℕ) (b : Bool) (t u : Phrase A) → AtMost n t → AtMost n u → AtMost n (cond b t u)
at_most_if n true t u h k = h
at_most_if n false t u h k = k

-- a phrase whose faults are caught ends in none
pub sound_either : {A B : Type 0} (t : Phrase A) (f : A → Phrase B) (g : Fault → Phrase B) → ((a : A) → Sound (f a)) → ((x : Fault) → Sound (g x)) → Sound (either t f g)
unfolding either
sound_either (Done a) f g k l = k a
sound_either (Faults x) f g k l = l x
sound_either (Begins m t) f g k l = sound_either t f g k l
sound_either (Asks q c) f g k l = λ v. sound_either (c v) f g k l

-- cycles of a phrase that ends in no fault are never judged as one
pub sound_never : {A : Type 0} (t : Phrase A) (x : Fault) (ts rest : List Ask) → Sound t → follow t ts ≡ Faulted x rest → ⊥
unfolding follow
sound_never (Done a) x ts rest h e = cc
sound_never (Faults f) x ts rest h e = absurd h
sound_never (Begins m t) x ts rest h e = sound_never t x ts rest h e
sound_never (Asks q k) x [] rest h e = cc
sound_never {A = A} (Asks q k) x (t ∷ ts) rest h e = go (matches q t) refl (sound_never (k (answer_of t)) x ts rest (h (answer_of t)))
  where
    go : (b : Bool) → matches q t ≡ b → (follow (k (answer_of t)) ts ≡ Faulted x rest → ⊥) → ⊥
    go true f ih = ih (rw f at e)
    go false f ih = let d : Wrong ≡ Faulted x rest = rw f at e in cc

-- what was whole stays whole, whatever follows
pub follow-front : {A : Type 0} (t : Phrase A) (a : A) (ts rest us : List Ask) → follow t ts ≡ Whole a rest → follow t (ts ++ us) ≡ Whole a (rest ++ us)
unfolding follow
follow-front (Done b) a ts rest us e =
    let b_is : b ≡ a = cc in
    let rest_is : ts ≡ rest = cc in
    rw (b_is, rest_is) refl
follow-front (Faults f) a ts rest us e = cc
follow-front (Begins m t) a ts rest us e = follow-front t a ts rest us e
follow-front (Asks q k) a [] rest us e = cc
follow-front {A = A} (Asks q k) a (t ∷ ts) rest us e = go (matches q t) refl (follow-front (k (answer_of t)) a ts rest us)
  where
    go : (b : Bool) → matches q t ≡ b → (follow (k (answer_of t)) ts ≡ Whole a rest → follow (k (answer_of t)) (ts ++ us) ≡ Whole a (rest ++ us)) → cond (matches q t) (follow (k (answer_of t)) (ts ++ us)) Wrong ≡ Whole a (rest ++ us)
    go true f ih = rw f (ih (rw f at e))
    go false f ih = let d : Wrong ≡ Whole a rest = rw f at e in cc

-- a whole step has no more cycles than its phrase
pub at_most_whole : {A : Type 0} (n : ℕ) (t : Phrase A) (a : A) (ts : List Ask) → AtMost n t → follow t ts ≡ Whole a [] → length ts ≤ n
unfolding follow
at_most_whole n (Done b) a [] h e = omega arith
at_most_whole n (Done b) a (x ∷ ts) h e = cc
at_most_whole n (Faults f) a ts h e = cc
at_most_whole n (Begins x t) a ts h e = at_most_whole n t a ts h e
at_most_whole zero (Asks q k) a ts h e = absurd h
at_most_whole (suc n) (Asks q k) a [] h e = cc
at_most_whole {A = A} (suc n) (Asks q k) a (t ∷ ts) h e = go (matches q t) refl (at_most_whole n (k (answer_of t)) a ts (h (answer_of t)))
  where
    go : (b : Bool) → matches q t ≡ b → (follow (k (answer_of t)) ts ≡ Whole a [] → length ts ≤ n) → length (t ∷ ts) ≤ suc n
    go true f ih = let i : length ts ≤ n = ih (rw f at e) in omega arith
    go false f ih = let d : Wrong ≡ Whole a [] = rw f at e in cc

-- the rule of states same on through what follows
pub obeys_then : {A B S : Type 0} (may : S → Ask → Type 0) (next : S → Ask → S) (P : S → A → Type 0) (Q : S → B → Type 0) (F : S → Fault → Type 0) (s : S) (t : Phrase A) (f : A → Phrase B) → Obeys may next P F s t → ((s2 : S) (a : A) → P s2 a → Obeys may next Q F s2 (f a)) → Obeys may next Q F s (t >>= f)
unfolding ◌>>=◌
obeys_then may next P Q F s (Done a) f h k = k s a h
obeys_then may next P Q F s (Faults x) f h k = h
obeys_then may next P Q F s (Begins m t) f h k = obeys_then may next P Q F s t f h k
obeys_then may next P Q F s (Asks q c) f h k = λ t e. ((h t e).0, obeys_then may next P Q F (next s t) (c (answer_of t)) f (h t e).1 k)

-- the state after cycles
pub after_all : {S : Type 0} → (S → Ask → S) → S → List Ask → S
after_all next s [] = s
after_all next s (t ∷ ts) = after_all next (next s t) ts

-- what holds at the end of the cycles of a whole phrase
pub obeys_whole : {A S : Type 0} (may : S → Ask → Type 0) (next : S → Ask → S) (P : S → A → Type 0) (F : S → Fault → Type 0) (s : S) (t : Phrase A) (a : A) (ts : List Ask) → Obeys may next P F s t → follow t ts ≡ Whole a [] → P (after_all next s ts) a
unfolding follow after_all
obeys_whole may next P F s (Done b) a [] h e = let i : b ≡ a = cc in let R : _ → Type 0 = P s in subst R i h
obeys_whole may next P F s (Done b) a (x ∷ ts) h e = cc
obeys_whole may next P F s (Faults f) a ts h e = cc
obeys_whole may next P F s (Begins m t) a ts h e = obeys_whole may next P F s t a ts h e
obeys_whole may next P F s (Asks q k) a [] h e = cc
obeys_whole may next P F s (Asks q k) a (t ∷ ts) h e = go (matches q t) refl (λ o. obeys_whole may next P F (next s t) (k (answer_of t)) a ts o)
  where
    go : (b : Bool) → matches q t ≡ b → (Obeys may next P F (next s t) (k (answer_of t)) → follow (k (answer_of t)) ts ≡ Whole a [] → P (after_all next (next s t) ts) a) → P (after_all next (next s t) ts) a
    go true f ih = ih (h t f).1 (rw f at e)
    go false f ih = let d : Wrong ≡ Whole a [] = rw f at e in cc

-- what holds where a phrase has been cut short: each cycle that it made was allowed, and the one that it wants is, if it is made
pub obeys_wants : {A S : Type 0} (may : S → Ask → Type 0) (next : S → Ask → S) (P : S → A → Type 0) (F : S → Fault → Type 0) (s : S) (t : Phrase A) (q : Ask) (ts : List Ask) → Obeys may next P F s t → follow t ts ≡ Wants q → (r : Ask) → matches q r ≡ true → may (after_all next s ts) r
unfolding follow after_all
obeys_wants may next P F s (Done b) q ts h e = cc
obeys_wants may next P F s (Faults f) q ts h e = cc
obeys_wants may next P F s (Begins m t) q ts h e = obeys_wants may next P F s t q ts h e
obeys_wants may next P F s (Asks p k) q [] h e = λ r f. let i : p ≡ q = cc in (h r (rw i f)).0
obeys_wants may next P F s (Asks p k) q (t ∷ ts) h e = go (matches p t) refl (λ o. obeys_wants may next P F (next s t) (k (answer_of t)) q ts o)
  where
    go : (b : Bool) → matches p t ≡ b → (Obeys may next P F (next s t) (k (answer_of t)) → follow (k (answer_of t)) ts ≡ Wants q → (r : Ask) → matches q r ≡ true → may (after_all next (next s t) ts) r) → (r : Ask) → matches q r ≡ true → may (after_all next (next s t) ts) r
    go true f ih = ih (h t f).1 (rw f at e)
    go false f ih = let d : Wrong ≡ Wants q = rw f at e in cc
