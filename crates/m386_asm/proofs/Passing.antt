-- Whether one of a list's elements passes a test, as a loop finds it.
use Rattle.std.proofs.Common.{◌≡◌, ℕ, zero, suc, ◌<◌, ◌≤◌, Bool, true, false, List, [], ◌∷◌, ◌++◌, length, map, take, get_or, refl, sym, ap, ◌∙◌, arith}
use Rattle.std.specs.Prelude.{◌||◌}
use Rattle.std.specs.List.{list_any}
use Rattle.std.proofs.lemmas.List.Folds.{list_any-append}

module _ {X Y : Type 0} (p : X → Bool) (f : Y → X) where
  or_true : (a b : Bool) → b ≡ true → true ≡ (a || b)
  or_true true b e = refl
  or_true false b e = sym e

  -- an element passes
  pub passes_at : (ys : List Y) (i : ℕ) (y : Y) → i < length ys → y ≡ get_or ys i y → p (f y) ≡ true → true ≡ list_any p (map f ys)
  passes_at [] i y h e t = absurd (omega (arith, h))
  passes_at (x ∷ xs) zero y h e t = first (p (f x)) (list_any p (map f xs)) (ap (λ z. p (f z)) (sym e) ∙ t)
    where
      first : (a b : Bool) → a ≡ true → true ≡ (a || b)
      first true b q = refl
      first false b q = (let k : false ≡ true = q in cc)
  passes_at (x ∷ xs) (suc i) y h e t = or_true (p (f x)) _ (sym (passes_at xs i y (omega (arith, h)) e t))

  -- none did to the end
  pub none_passes : (ys : List Y) (i : ℕ) → list_any p (map f (take i ys)) ≡ false → length ys ≤ i → false ≡ list_any p (map f ys)
  none_passes [] i e h = refl
  none_passes (x ∷ xs) zero e h = absurd (omega (arith, h))
  none_passes (x ∷ xs) (suc i) e h = rest (p (f x)) (list_any p (map f (take i xs))) _ e (λ q. none_passes xs i q (omega (arith, h)))
    where
      rest : (a b c : Bool) → (a || b) ≡ false → (b ≡ false → false ≡ c) → false ≡ (a || c)
      rest true b c q r = (let k : true ≡ false = q in cc)
      rest false b c q r = r q

-- a test of the second parts
any_second : {A X : Type 0} (p : X → Bool) (fs : List (A × X)) → list_any p (map (λ (f : A × X). f.1) fs) ≡ list_any (λ (f : A × X). p f.1) fs
any_second p [] = refl
any_second p (f ∷ fs) = ap (λ b. p f.1 || b) (any_second p fs)

-- where none of the first ones passes, the others decide
pub others_pass : {A X : Type 0} (p : X → Bool) (xs : List X) (fs gs : List (A × X)) (b : Bool) → list_any p xs ≡ false → gs ≡ fs →
    b ≡ list_any (λ (f : A × X). p f.1) gs → b ≡ list_any p (xs ++ map (λ (f : A × X). f.1) fs)
others_pass p xs fs gs b n e h = h ∙ ap (list_any (λ f. p f.1)) e ∙ sym (any_second p fs) ∙ ap (λ a. a || list_any p (map (λ f. f.1) fs)) (sym n) ∙ sym (list_any-append p xs _)
