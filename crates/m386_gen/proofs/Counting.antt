-- One more item behind those that were made from the numbers so far.
use Rattle.std.proofs.Common.{◌≡◌, ℕ, zero, suc, ◌+◌, List, [], ◌∷◌, ◌++◌, map, sym, ap, ◌∙◌, append_assoc, arith}
use Rattle.std.specs.List.{flat_map, range_with_len}
use Rattle.std.proofs.lemmas.List.{flat_map_more}
use Rattle.std.proofs.lemmas.List.FromFn.{map-range_with_len_more}

range_more : (first n k : ℕ) → first + n ≡ k → range_with_len first (suc n) ≡ range_with_len first n ++ k ∷ []
range_more first zero k e = let at : first ≡ k = omega (arith, e) in ap (λ (m : ℕ). m ∷ []) at
range_more first (suc n) k e = ap (λ (ns : List ℕ). first ∷ ns) (range_more (first + 1) n k (omega (arith, e)))

module _ {X : Type 0} (first n k : ℕ) (old new at : List X) where
  -- an item for each number
  pub map_on : (f : ℕ → X) → old ≡ at ++ map f (range_with_len first n) → first + n ≡ k → new ≡ old ++ f k ∷ [] → new ≡ at ++ map f (range_with_len first (n + 1))
  map_on f before e step =
      step ∙ ap (λ (xs : List X). xs ++ f k ∷ []) before ∙ append_assoc at (map f (range_with_len first n)) (f k ∷ []) ∙ ap (λ (xs : List X). at ++ xs) (sym (map-range_with_len_more f first n k e))

  -- several for each number
  pub flat_map_on : (f : ℕ → List X) → old ≡ at ++ flat_map f (range_with_len first n) → first + n ≡ k → new ≡ old ++ f k → new ≡ at ++ flat_map f (range_with_len first (n + 1))
  flat_map_on f before e step =
      let on : n + 1 ≡ suc n = omega arith in
      let more : range_with_len first (n + 1) ≡ range_with_len first n ++ k ∷ [] = ap (range_with_len first) on ∙ range_more first n k e in
      step ∙ ap (λ (xs : List X). xs ++ f k) before ∙ flat_map_more f at (range_with_len first n) k ∙ ap (λ (ks : List ℕ). at ++ flat_map f ks) (sym more)
