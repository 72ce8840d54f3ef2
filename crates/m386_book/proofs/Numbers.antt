-- Tasks by their selectors: eight times their numbers.
use Rattle.std.proofs.Common.{◌≡◌, ◌≢◌, ℕ, ◌+◌, ◌*◌, ◌/◌, ◌%◌, Bool, true, false, cond, eqb, refl, ap, sym, ◌∙◌, inl, inr, arith, eq-eqb}
use Rattle.std.proofs.lemmas.Bool.{cases_eq, ne_eqb}

-- two numbers are equal where eight times them are
pub same_eight : (a b : ℕ) → eqb (a * 8) (b * 8) ≡ eqb a b
same_eight a b = elim (cases_eq a b) [
  | inl e ↦ eq-eqb (a * 8) (b * 8) (omega (arith, e)) ∙ sym (eq-eqb a b e)
  | inr n ↦ ne_eqb (a * 8) (b * 8) (λ h. n (omega (arith, h))) ∙ sym (ne_eqb a b n)
]
