-- What one more cycle makes of a phrase that has been cut short.
use Rattle.std.proofs.Common.{◌≡◌, ℕ, zero, suc, ◌<◌, Bool, true, false, cond, List, [], ◌∷◌, ◌++◌, length, refl, arith}
use Rattle.m386_base.specs.declared.ask.Ask.{Ask}
use Rattle.m386_base.specs.Laws.{AtMost}
use Rattle.m386_base.specs.Phrase.{Phrase, Done, Faults, Asks, Begins, Judgement, follow, Whole, Faulted, Wants, Wrong, matches, answer_of}

-- nothing is left over, and nothing was wrong
abbrev pub IsExact : {A : Type 0} → Judgement A → Type 0
IsExact (Whole a rest) = rest ≡ []
IsExact (Faulted f rest) = rest ≡ []
IsExact (Wants q) = Unit {0}
IsExact Wrong = ⊥

pub exact_none : {A : Type 0} (t : Phrase A) → IsExact (follow t [])
unfolding follow
exact_none (Done a) = refl
exact_none (Faults f) = refl
exact_none (Begins m t) = exact_none t
exact_none (Asks q k) = tt

-- the cycle that is wanted comes
pub exact_more : {A : Type 0} (t : Phrase A) (q x : Ask) (ts : List Ask) → follow t ts ≡ Wants q → matches q x ≡ true → IsExact (follow t (ts ++ x ∷ []))
unfolding follow
exact_more (Done a) q x ts e m = cc
exact_more (Faults f) q x ts e m = cc
exact_more (Begins n t) q x ts e m = exact_more t q x ts e m
exact_more {A = A} (Asks p k) q x [] e m =
    let i : p ≡ q = cc in
    rw (i, m) (exact_none (k (answer_of x)))
exact_more {A = A} (Asks p k) q x (t ∷ ts) e m = go (matches p t) refl (exact_more (k (answer_of t)) q x ts)
  where
    go : (b : Bool) → matches p t ≡ b → (follow (k (answer_of t)) ts ≡ Wants q → matches q x ≡ true → IsExact (follow (k (answer_of t)) (ts ++ x ∷ []))) → IsExact (cond (matches p t) (follow (k (answer_of t)) (ts ++ x ∷ [])) Wrong)
    go true f ih = rw f (ih (rw f at e) m)
    go false f ih = let d : Wrong ≡ Wants q = rw f at e in cc

-- a phrase that wants more has made fewer cycles than it makes at most
pub at_most_wants : {A : Type 0} (n : ℕ) (t : Phrase A) (q : Ask) (ts : List Ask) → AtMost n t → follow t ts ≡ Wants q → length ts < n
unfolding follow
at_most_wants n (Done a) q ts h e = cc
at_most_wants n (Faults f) q ts h e = cc
at_most_wants n (Begins m t) q ts h e = at_most_wants n t q ts h e
at_most_wants zero (Asks p k) q ts h e = absurd h
at_most_wants (suc n) (Asks p k) q [] h e = omega arith
at_most_wants {A = A} (suc n) (Asks p k) q (t ∷ ts) h e = go (matches p t) refl (at_most_wants n (k (answer_of t)) q ts (h (answer_of t)))
  where
    go : (b : Bool) → matches p t ≡ b → (follow (k (answer_of t)) ts ≡ Wants q → length ts < n) → length (t ∷ ts) < suc n
    go true f ih = let i : length ts < n = ih (rw f at e) in omega arith
    go false f ih = let d : Wrong ≡ Wants q = rw f at e in cc
