-- What a phrase shows: what holds at its end of what its cycles have read and written.
use Rattle.std.proofs.Common.{◌≡◌, ℕ, Bool, true, false, List, [], ◌∷◌, refl, subst, cond}
use Rattle.m386_base.specs.declared.ask.Ask.{Ask}
use Rattle.m386_base.specs.Bus.{cycle_of}
use Rattle.m386_base.specs.Phrase.{Phrase, Done, Faults, Asks, Begins, ◌>>=◌, follow, Whole, Wrong, matches, answer_of}
use Rattle.m386_base.proofs.Matched.{cycle_matched}
use Rattle.m386_switch.specs.Seen.{Seen, note, seen_from}

-- It begins no attempt and ends in no fault, and P holds of what was seen and of what it found.
unfoldable pub Shows : {A : Type 0} → (Seen → A → Type 0) → Seen → Phrase A → Type 0
Shows P g (Done a) = P g a
Shows P g (Faults f) = ⊥
Shows P g (Begins m t) = ⊥
Shows P g (Asks q k) = (v : ℕ) → Shows P (note g (cycle_of q v)) (k v)

pub shows_ask : {A : Type 0} (P : Seen → A → Type 0) (g : Seen) (q : Ask) (k : ℕ → Phrase A) → ((v : ℕ) → Shows P (note g (cycle_of q v)) (k v)) → Shows P g (Asks q k)
unfolding Shows
shows_ask P g q k h = h

-- either branch of a choice
pub shows_if : {A : Type 0} (P : Seen → A → Type 0) (g : Seen) (b : Bool) (t u : Phrase A) → (b ≡ true → Shows P g t) → (b ≡ false → Shows P g u) → Shows P g (cond b t u)
shows_if P g true t u h k = h refl
shows_if P g false t u h k = k refl

pub shows_done : {A : Type 0} (P : Seen → A → Type 0) (g : Seen) (a : A) → P g a → Shows P g (Done a)
unfolding Shows
shows_done P g a h = h

-- phrases laid end to end, taken from the right
pub shows_later : {A B C : Type 0} (P : Seen → C → Type 0) (g : Seen) (t : Phrase A) (f : A → Phrase B) (h : B → Phrase C) → Shows P g (t >>= (λ a. f a >>= h)) → Shows P g ((t >>= f) >>= h)
unfolding Shows ◌>>=◌
shows_later P g (Done a) f h k = k
shows_later P g (Faults x) f h k = k
shows_later P g (Begins m t) f h k = k
shows_later P g (Asks q c) f h k = λ v. shows_later P (note g (cycle_of q v)) (c v) f h (k v)

-- what follows from either branch of a choice
pub shows_if_then : {A B : Type 0} (P : Seen → B → Type 0) (g : Seen) (b : Bool) (t u : Phrase A) (f : A → Phrase B) → (b ≡ true → Shows P g (t >>= f)) → (b ≡ false → Shows P g (u >>= f)) → Shows P g (cond b t u >>= f)
shows_if_then P g true t u f h k = h refl
shows_if_then P g false t u f h k = k refl

pub shows_bind : {A B : Type 0} (P : Seen → B → Type 0) (g : Seen) (a : A) (f : A → Phrase B) → Shows P g (f a) → Shows P g (Done a >>= f)
unfolding ◌>>=◌
shows_bind P g a f h = h

-- What a phrase shows holds of the whole of its cycles.
pub shown : {A : Type 0} (P : Seen → A → Type 0) (g : Seen) (t : Phrase A) (a : A) (ts : List Ask) → Shows P g t → follow t ts ≡ Whole a [] → P (seen_from g ts) a
unfolding Shows follow seen_from
shown P g (Done b) a [] h e = let i : b ≡ a = cc in let R : _ → Type 0 = P g in subst R i h
shown P g (Done b) a (x ∷ ts) h e = cc
shown P g (Faults f) a ts h e = absurd h
shown P g (Begins m t) a ts h e = absurd h
shown P g (Asks q k) a [] h e = cc
shown {A = A} P g (Asks q k) a (t ∷ ts) h e = go (matches q t) refl (shown P (note g (cycle_of q (answer_of t))) (k (answer_of t)) a ts (h (answer_of t)))
  where
    go : (b : Bool) → matches q t ≡ b → (follow (k (answer_of t)) ts ≡ Whole a [] → P (seen_from (note g (cycle_of q (answer_of t))) ts) a) → P (seen_from (note g t) ts) a
    go true f ih = let R : Ask → Type 0 = λ x. P (seen_from (note g x) ts) a in subst R (cycle_matched q t f) (ih (rw f at e))
    go false f ih = let d : Wrong ≡ Whole a [] = rw f at e in cc
