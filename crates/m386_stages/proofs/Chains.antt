-- Phrases laid end to end keep to the stages one after another.
use Rattle.std.proofs.Common.{◌≡◌, ℕ, inl, inr, Bool, true, false, List, [], ◌∷◌, ◌++◌, refl, cond}
use Rattle.m386_base.specs.declared.ask.Ask.{Ask}
use Rattle.m386_base.specs.declared.fault.Fault.{Fault}
use Rattle.m386_base.specs.Phrase.{Phrase, Done, Faults, Asks, Begins, ◌>>=◌}
use Rattle.m386_state.specs.declared.segment.TableReg.{TableReg}
use Rattle.m386_stages.specs.Stages.{Stage, Keeps, on}
use Rattle.m386_base.specs.Bytes.{Has}
use Rattle.m386_base.specs.Laws.{Turns}

-- one phrase, and then the one that follows from what it found
pub turns_then : {A B S : Type 0} (T : S → Ask → ℕ → S → Type 0) (P : S → A → Type 0) (Q : S → B → Type 0) (F : S → Fault → Type 0) (s : S) (t : Phrase A) (f : A → Phrase B) → Turns T P F s t → ((a : A) (s2 : S) → P s2 a → Turns T Q F s2 (f a)) → Turns T Q F s (t >>= f)
unfolding Turns ◌>>=◌
turns_then T P Q F s (Done a) f h k = k a s h
turns_then T P Q F s (Faults x) f h k = h
turns_then T P Q F s (Begins m t) f h k = turns_then T P Q F s t f h k
turns_then T P Q F s (Asks q c) f h k = λ v. ((h v).0, (h v).1, turns_then T P Q F (h v).0 (c v) f (h v).2 k)

pub keeps_then : {A B : Type 0} (gdt : TableReg) (P : Stage → A → Type 0) (Q : Stage → B → Type 0) (g : Stage) (t : Phrase A) (f : A → Phrase B) → Keeps gdt P g t → ((a : A) (g2 : Stage) → P g2 a → Keeps gdt Q g2 (f a)) → Keeps gdt Q g (t >>= f)
unfolding Keeps
keeps_then gdt P Q g t f h k = turns_then (on gdt) P Q (λ s x. ⊥) g t f h k

pub keeps_done : {A : Type 0} (gdt : TableReg) (P : Stage → A → Type 0) (g : Stage) (a : A) → P g a → Keeps gdt P g (Done a)
unfolding Keeps Turns
keeps_done gdt P g a h = h

-- either branch of a choice
pub keeps_if : {A : Type 0} (gdt : TableReg) (P : Stage → A → Type 0) (g : Stage) (b : Bool) (t u : Phrase A) → (b ≡ true → Keeps gdt P g t) → (b ≡ false → Keeps gdt P g u) → Keeps gdt P g (cond b t u)
keeps_if gdt P g true t u h k = h refl
keeps_if gdt P g false t u h k = k refl

pub has_right : (xs ys : List (ℕ × ℕ)) (a b : ℕ) → Has ys a b → Has (xs ++ ys) a b
has_right [] ys a b h = h
has_right (x ∷ xs) ys a b h = inr (has_right xs ys a b h)

pub has_left : (xs ys : List (ℕ × ℕ)) (a b : ℕ) → Has xs a b → Has (xs ++ ys) a b
has_left [] ys a b h = absurd h
has_left (x ∷ xs) ys a b (inl h) = inl h
has_left (x ∷ xs) ys a b (inr h) = inr (has_left xs ys a b h)

-- less is said at the end
pub turns_weaken : {A S : Type 0} (T : S → Ask → ℕ → S → Type 0) (P Q : S → A → Type 0) (F : S → Fault → Type 0) (s : S) (t : Phrase A) → ((a : A) (s2 : S) → P s2 a → Q s2 a) → Turns T P F s t → Turns T Q F s t
unfolding Turns
turns_weaken T P Q F s (Done a) k h = k a s h
turns_weaken T P Q F s (Faults x) k h = h
turns_weaken T P Q F s (Begins m t) k h = turns_weaken T P Q F s t k h
turns_weaken T P Q F s (Asks q c) k h = λ v. ((h v).0, (h v).1, turns_weaken T P Q F (h v).0 (c v) k (h v).2)

pub keeps_weaken : {A : Type 0} (gdt : TableReg) (P Q : Stage → A → Type 0) (g : Stage) (t : Phrase A) → ((a : A) (g2 : Stage) → P g2 a → Q g2 a) → Keeps gdt P g t → Keeps gdt Q g t
unfolding Keeps
keeps_weaken gdt P Q g t k h = turns_weaken (on gdt) P Q (λ s x. ⊥) g t k h
