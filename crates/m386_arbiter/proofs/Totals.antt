-- Sums over all seats, and what holds of each seat.
use Rattle.std.proofs.Common.{◌≡◌, ◌≢◌, ◌⊎◌, inl, inr, ℕ, zero, suc, ◌+◌, ◌<◌, ◌≤◌, eqb, cond, List, [], ◌∷◌, ◌++◌, length, set, refl, sym, ap, subst, ⊎_elim, arith, eq-eqb, ne_eqb}
use mathlib.Core.Option.{some, some-ne-none, some-injective}
use lib.ListN.{get_elem?}
use Rattle.atomic_table.proofs.Lists.{at_set}
use Rattle.m386_arbiter.specs.declared.rule.View.{View}
use Rattle.m386_arbiter.specs.Rule.{total}

pub total_set : (f : View → ℕ) (views : List View) (j : ℕ) (v w : View) → get_elem? views j ≡ some v → total f (set views j w) + f v ≡ total f views + f w
total_set f [] j v w e = absurd (some-ne-none v (sym e))
total_set f (x ∷ xs) zero v w e = let s : f x ≡ f v = ap f (some-injective x v e) in omega arith
total_set f (x ∷ xs) (suc j) v w e = let r = total_set f xs j v w e in omega arith

pub total_snoc : (f : View → ℕ) (views : List View) (w : View) → total f (views ++ w ∷ []) ≡ total f views + f w
total_snoc f [] w = omega arith
total_snoc f (x ∷ xs) w = let r = total_snoc f xs w in omega arith

pub total_le : (f g : View → ℕ) (views : List View) → ((j : ℕ) (v : View) → get_elem? views j ≡ some v → f v ≤ g v) → total f views ≤ total g views
total_le f g [] h = omega arith
total_le f g (x ∷ xs) h = let r = total_le f g xs (λ j v e. h (suc j) v e) in let m = h 0 x refl in omega arith

pub every_set : (F : ℕ → View → Type 0) (views : List View) (id : ℕ) (w : View) → F id w → ((j : ℕ) (u : View) → j ≢ id → get_elem? views j ≡ some u → F j u) → (j : ℕ) (u : View) → get_elem? (set views id w) j ≡ some u → F j u
every_set F views id w mine others j u e =
    ⊎_elim
    (λ (x : (j ≡ id) × (w ≡ u)). subst (λ (y : ℕ × View). F y.0 y.1) (λ i. (sym x.0 i, x.1 i)) mine)
    (λ (x : (j ≢ id) × (get_elem? views j ≡ some u)). others j u x.0 x.1)
    (at_set views id j w u e)

pub at_new : (l : List View) (a b : View) (j : ℕ) → get_elem? (l ++ a ∷ []) j ≡ some b → ((j < length l) × (get_elem? l j ≡ some b)) ⊎ ((j ≡ length l) × (a ≡ b))
at_new [] a b zero e = inr (refl, some-injective a b e)
at_new [] a b (suc j) e = absurd (some-ne-none b (sym e))
at_new (x ∷ xs) a b zero e = inl (omega arith, e)
at_new (x ∷ xs) a b (suc j) e = ⊎_elim (λ (t : (j < length xs) × (get_elem? xs j ≡ some b)). inl (omega arith, t.1)) (λ (t : (j ≡ length xs) × (a ≡ b)). inr (ap suc t.0, t.1)) (at_new xs a b j e)

pub at_inside : (l : List View) (j : ℕ) (b : View) → get_elem? l j ≡ some b → j < length l
at_inside [] j b e = absurd (some-ne-none b (sym e))
at_inside (x ∷ xs) zero b e = omega arith
at_inside (x ∷ xs) (suc j) b e = let r = at_inside xs j b e in omega arith

-- a function that gives j at t
abbrev pub put_at : (ℕ → ℕ) → ℕ → ℕ → ℕ → ℕ
put_at h t j x = cond (eqb x t) j (h x)

pub put_here : (h : ℕ → ℕ) (t j : ℕ) → put_at h t j t ≡ j
put_here h t j = rw (eq-eqb t t refl) refl

pub put_else : (h : ℕ → ℕ) (t j x : ℕ) → x ≢ t → put_at h t j x ≡ h x
put_else h t j x n = rw (ne_eqb x t n) refl
