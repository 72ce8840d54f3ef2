-- The cycles of a whole phrase are cut out of those that begin with them, in one way.
use Rattle.std.proofs.Common.{◌≡◌, Bool, true, false, cond, List, [], ◌∷◌, ◌++◌, length, refl, sym, ap, ◌∙◌, arith, length-append}
use Rattle.m386_base.specs.declared.ask.Ask.{Ask}
use Rattle.m386_base.specs.Phrase.{Phrase, Done, Faults, Asks, Begins, follow, Whole, Wrong, matches, answer_of}

-- the cycles of a phrase among those that begin with it
pub record FrontOf {A : Type 0} (t : Phrase A) (a : A) (ts rest : List Ask) : Type 0 where
  pub own : List Ask
  pub cut : ts ≡ own ++ rest
  pub whole : follow t own ≡ Whole a []

pub cut_front : {A : Type 0} (t : Phrase A) (a : A) (ts rest : List Ask) → follow t ts ≡ Whole a rest → FrontOf t a ts rest
unfolding follow
cut_front {A = A} (Done b) a ts rest e =
    let v : b ≡ a = cc in
    let r : ts ≡ rest = cc in
    record { own = []; cut = r; whole = ap (λ (x : A). Whole x []) v }
cut_front (Faults f) a ts rest e = cc
cut_front (Begins m t) a ts rest e = let w = cut_front t a ts rest e in record { own = w.own; cut = w.cut; whole = w.whole }
cut_front (Asks q k) a [] rest e = cc
cut_front {A = A} (Asks q k) a (t ∷ ts) rest e = go (matches q t) refl (cut_front (k (answer_of t)) a ts rest)
  where
    go : (b : Bool) → matches q t ≡ b → (follow (k (answer_of t)) ts ≡ Whole a rest → FrontOf (k (answer_of t)) a ts rest) → FrontOf (Asks q k) a (t ∷ ts) rest
    go true f ih =
        let w = ih (rw f at e) in
        record { own = t ∷ w.own; cut = ap (λ (us : List Ask). t ∷ us) w.cut; whole = rw f w.whole }
    go false f ih = let d : Wrong ≡ Whole a rest = rw f at e in cc

-- further cycles are left over
pub whole_and_more : {A : Type 0} (t : Phrase A) (a : A) (ts rest more : List Ask) → follow t ts ≡ Whole a rest → follow t (ts ++ more) ≡ Whole a (rest ++ more)
unfolding follow
whole_and_more {A = A} (Done b) a ts rest more e =
    let v : b ≡ a = cc in
    let r : ts ≡ rest = cc in
    rw (v, r) refl
whole_and_more (Faults f) a ts rest more e = cc
whole_and_more (Begins m t) a ts rest more e = whole_and_more t a ts rest more e
whole_and_more (Asks q k) a [] rest more e = cc
whole_and_more {A = A} (Asks q k) a (t ∷ ts) rest more e = go (matches q t) refl (whole_and_more (k (answer_of t)) a ts rest more)
  where
    go : (b : Bool) → matches q t ≡ b → (follow (k (answer_of t)) ts ≡ Whole a rest → follow (k (answer_of t)) (ts ++ more) ≡ Whole a (rest ++ more)) → cond (matches q t) (follow (k (answer_of t)) (ts ++ more)) Wrong ≡ Whole a (rest ++ more)
    go true f ih = rw f (ih (rw f at e))
    go false f ih = let d : Wrong ≡ Whole a rest = rw f at e in cc

-- two fronts of the same cycles that are one phrase are the same, and found the same
pub record SameFront {A : Type 0} (a b : A) (ts us more rest : List Ask) : Type 0 where
  pub found : a ≡ b
  pub cycles : ts ≡ us
  pub rest_same : more ≡ rest

same_front_length : (ts us more rest : List Ask) → ts ++ more ≡ us ++ rest → more ≡ rest → ts ≡ us
same_front_length [] [] more rest e r = refl
same_front_length [] (u ∷ us) more rest e r = let l : length more ≡ length ((u ∷ us) ++ rest) = ap length e in absurd (omega (arith, l, ap length r, length-append us rest))
same_front_length (t ∷ ts) [] more rest e r = let l : length ((t ∷ ts) ++ more) ≡ length rest = ap length e in absurd (omega (arith, l, ap length r, length-append ts more))
same_front_length (t ∷ ts) (u ∷ us) more rest e r =
    let h : t ≡ u = cc in
    let l : ts ++ more ≡ us ++ rest = cc in
    let i : ts ≡ us = same_front_length ts us more rest l r in
    rw (h, i) refl

pub one_front : {A : Type 0} (t : Phrase A) (a b : A) (ts us more rest : List Ask) → follow t ts ≡ Whole a [] → follow t us ≡ Whole b [] → ts ++ more ≡ us ++ rest → SameFront a b ts us more rest
one_front {A = A} t a b ts us more rest e f c =
    let g : Whole a more ≡ Whole b rest = sym (whole_and_more t a ts [] more e) ∙ ap (follow t) c ∙ whole_and_more t b us [] rest f in
    let v : a ≡ b = cc in
    let r : more ≡ rest = cc in
    record { found = v; cycles = same_front_length ts us more rest c r; rest_same = r }
