-- Facts about few numbers, by computing each.
use Rattle.std.proofs.Common.{◌≡◌, ℕ, zero, suc, ◌<◌, Bool, true, false, ◌&&◌, arith, refl, ◌⊎◌, inl, inr, subst, sym}

-- the test holds of each number below n
unfoldable pub all_below : ℕ → (ℕ → Bool) → Bool
all_below zero p = true
all_below (suc n) p = all_below n p && p n

and-left : (a b : Bool) → a && b ≡ true → a ≡ true
and-left true b h = refl
and-left false b h = h

and-right : (a b : Bool) → a && b ≡ true → b ≡ true
and-right true b h = h
and-right false true h = refl
and-right false false h = h

last-or-below : (k n : ℕ) → k < suc n → (k < n) ⊎ (k ≡ n)
last-or-below k n h = grind arith

pub each_below : (n : ℕ) (p : ℕ → Bool) → all_below n p ≡ true → (k : ℕ) → k < n → p k ≡ true
unfolding all_below
each_below zero p h k l = absurd (omega arith)
each_below (suc n) p h k l =
    elim (last-or-below k n l) [
      | inl m ↦ each_below n p (and-left (all_below n p) (p n) h) k m
      | inr e ↦ (let P : ℕ → Type 0 = λ i. p i ≡ true in subst P (sym e) (and-right (all_below n p) (p n) h))
    ]
