-- Laws of phrases: how long they are, and what holds along each way through one.
use Rattle.std.specs.Prelude.{◌≡◌, ℕ, zero, suc, true, List, [], ◌∷◌}
use Rattle.m386_base.specs.declared.ask.Ask.{Ask}
use Rattle.m386_base.specs.declared.fault.Fault.{Fault}
use Rattle.m386_base.specs.Phrase.{Phrase, Done, Faults, Asks, Begins, Attempt, matches, answer_of}

-- at most n cycles
abbrev pub AtMost : {A : Type 0} → ℕ → Phrase A → Type 0
AtMost n (Done a) = Unit {0}
AtMost n (Faults f) = Unit {0}
AtMost zero (Asks q k) = ⊥
AtMost n (Begins m t) = AtMost n t
AtMost (suc n) (Asks q k) = (v : ℕ) → AtMost n (k v)

-- Each way through a phrase passes a rule of states: `next s t s2` says that a cycle t may be made in the state s,
-- and leads to s2. At the end P holds of the state and of what was found, at a fault F.
abbrev pub Obeys : {A S : Type 0} → (S → Ask → Type 0) → (S → Ask → S) → (S → A → Type 0) → (S → Fault → Type 0) → S → Phrase A → Type 0
Obeys may next P F s (Done a) = P s a
Obeys may next P F s (Faults f) = F s f
Obeys may next P F s (Begins m t) = Obeys may next P F s t
Obeys may next P F s (Asks q k) = (t : Ask) → matches q t ≡ true → may s t × Obeys may next P F (next s t) (k (answer_of t))

-- no way through a phrase ends in a fault
abbrev pub Sound : {A : Type 0} → Phrase A → Type 0
Sound (Done a) = Unit {0}
Sound (Faults f) = ⊥
Sound (Begins m t) = Sound t
Sound (Asks q k) = (v : ℕ) → Sound (k v)

-- the attempts in cycles that follow a phrase, each with the cycles from its begin on
unfoldable pub attempts : {A : Type 0} → Phrase A → List Ask → List (Attempt × List Ask)
attempts (Done a) ts = []
attempts (Faults f) ts = []
attempts (Begins m t) ts = (m, ts) ∷ attempts t ts
attempts (Asks q k) [] = []
attempts (Asks q k) (t ∷ ts) = attempts (k (answer_of t)) ts

-- Each ask of a phrase, whatever is answered, is a turn from one stage to another. At the end P holds, at a fault F.
unfoldable pub Turns : {A S : Type 0} → (S → Ask → ℕ → S → Type 0) → (S → A → Type 0) → (S → Fault → Type 0) → S → Phrase A → Type 0
Turns T P F s (Done a) = P s a
Turns T P F s (Faults f) = F s f
Turns T P F s (Begins m t) = Turns T P F s t
Turns {S = S} T P F s (Asks q k) = (v : ℕ) → (s2 : S) × T s q v s2 × Turns T P F s2 (k v)
