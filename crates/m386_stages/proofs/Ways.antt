-- What a phrase keeps to holds of the very cycles that follow it.
use Rattle.std.proofs.Common.{◌≡◌, ℕ, Bool, true, false, List, [], ◌∷◌, refl, ap, subst}
use Rattle.m386_base.specs.declared.ask.Ask.{Ask}
use Rattle.m386_base.specs.declared.fault.Fault.{Fault}
use Rattle.m386_base.specs.Bus.{cycle_of}
use Rattle.m386_base.specs.Phrase.{Phrase, Done, Faults, Asks, Begins, follow, matches, answer_of, Judgement, Whole, Faulted, Wants, Wrong}
use Rattle.m386_base.proofs.Matched.{cycle_matched}
use Rattle.m386_state.specs.declared.segment.TableReg.{TableReg}
use Rattle.m386_stages.specs.Stages.{Stage, Turn, Keeps, Path, on}
use Rattle.m386_base.specs.Laws.{Turns}

-- Whole cycles of a phrase lead from its stage to one where P holds.
pub turns_whole : {A : Type 0} (gdt : TableReg) (P : Stage → A → Type 0) (F : Stage → Fault → Type 0) (g : Stage) (t : Phrase A) (a : A) (ts : List Ask) → Turns (on gdt) P F g t → follow t ts ≡ Whole a [] → (g2 : Stage) × Path gdt g ts g2 × P g2 a
unfolding Turns follow Path
turns_whole gdt P F g (Done b) a [] h e = let i : b ≡ a = cc in (g, refl, subst (P g) i h)
turns_whole gdt P F g (Done b) a (x ∷ ts) h e = cc
turns_whole gdt P F g (Faults f) a ts h e = cc
turns_whole gdt P F g (Begins m t) a ts h e = turns_whole gdt P F g t a ts h e
turns_whole gdt P F g (Asks q k) a [] h e = cc
turns_whole {A = A} gdt P F g (Asks q k) a (t ∷ ts) h e = go (matches q t) refl (turns_whole gdt P F (h (answer_of t)).0 (k (answer_of t)) a ts (h (answer_of t)).2)
  where
    g1 : Stage
    g1 = (h (answer_of t)).0

    go : (b : Bool) → matches q t ≡ b → (follow (k (answer_of t)) ts ≡ Whole a [] → (g2 : Stage) × Path gdt g1 ts g2 × P g2 a) → (g2 : Stage) × ((g1 : Stage) × Turn gdt g t g1 × Path gdt g1 ts g2) × P g2 a
    go true f ih = let r = ih (rw f at e) in (r.0, (g1, subst (λ c. Turn gdt g c g1) (cycle_matched q t f) (h (answer_of t)).1, r.1), r.2)
    go false f ih = let d : Wrong ≡ Whole a [] = rw f at e in cc

pub keeps_whole : {A : Type 0} (gdt : TableReg) (P : Stage → A → Type 0) (g : Stage) (t : Phrase A) (a : A) (ts : List Ask) → Keeps gdt P g t → follow t ts ≡ Whole a [] → (g2 : Stage) × Path gdt g ts g2 × P g2 a
unfolding Keeps
keeps_whole gdt P g t a ts h e = turns_whole gdt P (λ s f. ⊥) g t a ts h e

abbrev wanted_of : {A : Type 0} → Ask → Judgement A → Ask
wanted_of d (Whole a ts) = d
wanted_of d (Faulted f ts) = d
wanted_of d (Wants q) = q
wanted_of d Wrong = d

-- A proper front of its cycles leads to a stage too, from which the ask that is made next is a turn, whatever is answered.
pub keeps_wants : {A : Type 0} (gdt : TableReg) (P : Stage → A → Type 0) (g : Stage) (t : Phrase A) (q : Ask) (ts : List Ask) → Keeps gdt P g t → follow t ts ≡ Wants q → (g2 : Stage) × Path gdt g ts g2 × ((v : ℕ) → (g3 : Stage) × Turn gdt g2 (cycle_of q v) g3)
unfolding Keeps Turns follow Path
keeps_wants gdt P g (Done b) q ts h e = cc
keeps_wants gdt P g (Faults f) q ts h e = absurd h
keeps_wants gdt P g (Begins m t) q ts h e = keeps_wants gdt P g t q ts h e
keeps_wants gdt P g (Asks r k) q [] h e =
    let i : r ≡ q = ap (wanted_of r) e in
    (g, refl, λ v. ((h v).0, subst (λ x. Turn gdt g (cycle_of x v) (h v).0) i (h v).1))
keeps_wants {A = A} gdt P g (Asks r k) q (t ∷ ts) h e = go (matches r t) refl (keeps_wants gdt P (h (answer_of t)).0 (k (answer_of t)) q ts (h (answer_of t)).2)
  where
    g1 : Stage
    g1 = (h (answer_of t)).0

    go : (b : Bool) → matches r t ≡ b → (follow (k (answer_of t)) ts ≡ Wants q → (g2 : Stage) × Path gdt g1 ts g2 × ((v : ℕ) → (g3 : Stage) × Turn gdt g2 (cycle_of q v) g3)) → (g2 : Stage) × ((g1 : Stage) × Turn gdt g t g1 × Path gdt g1 ts g2) × ((v : ℕ) → (g3 : Stage) × Turn gdt g2 (cycle_of q v) g3)
    go true f ih = let s = ih (rw f at e) in (s.0, (g1, subst (λ c. Turn gdt g c g1) (cycle_matched r t f) (h (answer_of t)).1, s.1), s.2)
    go false f ih = let d : Wrong ≡ Wants q = rw f at e in cc
