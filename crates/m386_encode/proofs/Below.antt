-- What holds of the numbers below another.
use Rattle.std.proofs.Common.{◌≡◌, ℕ, ◌+◌, ◌<◌, ◌⊎◌, inl, inr, nat_lt, arith, subst}
use Rattle.std.proofs.lemmas.Bool.{cases_Bool, ltb-true, ltb-false}

split : (i n : ℕ) → i < n + 1 → (i < n) ⊎ (n ≡ i)
split i n h = elim (cases_Bool (nat_lt i n)) [ inl e ↦ inl (ltb-true i n e) | inr e ↦ inr (omega (arith, ltb-false i n e, h)) ]

-- what holds below a number and of it holds below the next
pub below_next : (P : ℕ → Type 0) (n : ℕ) → ((i : ℕ) → i < n → P i) → P n → (i : ℕ) → i < n + 1 → P i
below_next P n f p i h = elim (split i n h) [ inl l ↦ f i l | inr e ↦ subst P e p ]
