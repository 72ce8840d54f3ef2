-- The selectors of live links, each once.
use Rattle.std.proofs.Common.{◌≡◌, ◌≢◌, ℕ, ◌+◌, ◌*◌, ◌/◌, ◌%◌, ◌≤◌, Bool, true, false, cond, eqb, not, ◌&&◌, ◌||◌, List, [], ◌∷◌, ◌++◌, filter, refl, ap, sym, ◌∙◌, inl, inr, arith, eq-eqb}
use Rattle.std.specs.Prelude.{nat_le, IsPermutation, ◌==◌}
use Rattle.std.specs.List.{list_any, sum_by}
use Rattle.std.proofs.lemmas.Bool.{cases_eq, ne_eqb, le-leb}
use Rattle.std.proofs.lemmas.List.Sums.{sum_by-cons}
use Rattle.std.proofs.lemmas.List.Sorted.{sum_by-IsPermutation}
use Rattle.m386_book.specs.Book.{Book, set}
use Rattle.m386_book.specs.Holding.{others, times, live_times}

-- ---- how often a selector stands

same_either : (b : Bool) (x : ℕ) → x ≡ cond b x x
same_either true x = refl
same_either false x = refl

pub times_others : (s t : ℕ) (xs : List ℕ) → times s (others t xs) ≡ cond (eqb s t) 0 (times s xs)
times_others s t [] = same_either (eqb s t) 0
times_others s t (y ∷ ys) = elim (cases_eq y t) [
  | inl yt ↦
      let out : eqb y t ≡ true = eq-eqb y t yt in
      ap (λ (b : Bool). times s (cond (not b) (y ∷ others t ys) (others t ys))) out ∙ times_others s t ys ∙ same s yt
  | inr n ↦
      let in_it : eqb y t ≡ false = ne_eqb y t n in
      ap (λ (b : Bool). times s (cond (not b) (y ∷ others t ys) (others t ys))) in_it ∙ ap (λ (k : ℕ). cond (eqb y s) 1 0 + k) (times_others s t ys) ∙ other s n
]
  where
    same : (s : ℕ) → y ≡ t → cond (eqb s t) 0 (times s ys) ≡ cond (eqb s t) 0 (cond (eqb y s) 1 0 + times s ys)
    same s yt = elim (cases_eq s t) [
      | inl st ↦ ap (λ (b : Bool). cond b 0 (times s ys)) (eq-eqb s t st) ∙ sym (ap (λ (b : Bool). cond b 0 (cond (eqb y s) 1 0 + times s ys)) (eq-eqb s t st))
      | inr n ↦
          let plain : times s ys ≡ 0 + times s ys = omega arith in
          ap (λ (k : ℕ). cond (eqb s t) 0 k) (plain ∙ ap (λ (b : Bool). cond b 1 0 + times s ys) (sym (ne_eqb y s (λ h. n (sym h ∙ yt)))))
    ]

    other : (s : ℕ) → (y ≡ t → ⊥) → cond (eqb y s) 1 0 + cond (eqb s t) 0 (times s ys) ≡ cond (eqb s t) 0 (cond (eqb y s) 1 0 + times s ys)
    other s n = elim (cases_eq s t) [
      | inl st ↦
          let no : eqb y s ≡ false = ne_eqb y s (λ h. n (h ∙ st)) in
          ap (λ (b : Bool). cond b 1 0 + cond (eqb s t) 0 (times s ys)) no ∙ ap (λ (b : Bool). 0 + cond b 0 (times s ys)) (eq-eqb s t st) ∙ sym (ap (λ (b : Bool). cond b 0 (cond (eqb y s) 1 0 + times s ys)) (eq-eqb s t st))
      | inr m ↦
          ap (λ (b : Bool). cond (eqb y s) 1 0 + cond b 0 (times s ys)) (ne_eqb s t m) ∙ sym (ap (λ (b : Bool). cond b 0 (cond (eqb y s) 1 0 + times s ys)) (ne_eqb s t m))
    ]

pub times_push : (s t : ℕ) (xs : List ℕ) → times s (xs ++ t ∷ []) ≡ times s xs + cond (eqb t s) 1 0
times_push s t [] = omega arith
times_push s t (x ∷ xs) = let h : times s (xs ++ t ∷ []) ≡ times s xs + cond (eqb t s) 1 0 = times_push s t xs in omega (arith, h)

times_sum : (s : ℕ) (xs : List ℕ) → times s xs ≡ sum_by (λ y. cond (eqb y s) 1 0) xs
times_sum s [] = refl
times_sum s (x ∷ xs) = ap (λ (k : ℕ). cond (eqb x s) 1 0 + k) (times_sum s xs) ∙ sym (sum_by-cons (λ y. cond (eqb y s) 1 0) x xs)

pub times_moved : (s : ℕ) (xs ys : List ℕ) → IsPermutation xs ys → times s ys ≡ times s xs
times_moved s xs ys p = times_sum s ys ∙ sum_by-IsPermutation (λ y. cond (eqb y s) 1 0) xs ys p ∙ sym (times_sum s xs)

pub any_times : (s : ℕ) (xs : List ℕ) → list_any (λ y. eqb y s) xs ≡ nat_le 1 (times s xs)
any_times s [] = refl
any_times s (x ∷ xs) = ap (λ (b : Bool). eqb x s || b) (any_times s xs) ∙ go (eqb x s)
  where
    go : (b : Bool) → (b || nat_le 1 (times s xs)) ≡ nat_le 1 (cond b 1 0 + times s xs)
    go true = sym (le-leb 1 (1 + times s xs) (omega arith))
    go false = ap (nat_le 1) (omega arith)

-- ---- the same of the book

-- once, where it holds
abbrev pub unit_if : Bool → ℕ
unit_if b = cond b 1 0

-- once, where a selector is that of a live link
abbrev once : (ℕ → Bool) → ℕ → ℕ
once live s = unit_if ((s % 8 == 0) && live (s / 8))

changed : (v : Bool) (live : ℕ → Bool) (s n : ℕ) → once (set live n v) s ≡ cond (eqb s (n * 8)) (unit_if v) (once live s)
unfolding set
changed v live s n = elim (cases_eq s (n * 8)) [
  | inl e ↦
      let whole : eqb (s % 8) 0 ≡ true = eq-eqb (s % 8) 0 (omega (arith, e)) in
      let number : eqb (s / 8) n ≡ true = eq-eqb (s / 8) n (omega (arith, e)) in
      ap (λ (b : Bool). unit_if (b && cond (eqb (s / 8) n) v (live (s / 8)))) whole ∙ ap (λ (b : Bool). unit_if (cond b v (live (s / 8)))) number
      ∙ sym (ap (λ (b : Bool). cond b (unit_if v) (once live s)) (eq-eqb s (n * 8) e))
  | inr ne ↦ elim (cases_eq (s % 8) 0) [
    | inl e ↦
        let number : eqb (s / 8) n ≡ false = ne_eqb (s / 8) n (λ h. ne (omega (arith, h, e))) in
        ap (λ (b : Bool). unit_if ((s % 8 == 0) && cond b v (live (s / 8)))) number ∙ sym (ap (λ (b : Bool). cond b (unit_if v) (once live s)) (ne_eqb s (n * 8) ne))
    | inr m ↦
        let part : eqb (s % 8) 0 ≡ false = ne_eqb (s % 8) 0 m in
        ap (λ (b : Bool). unit_if (b && cond (eqb (s / 8) n) v (live (s / 8)))) part ∙ sym (ap (λ (b : Bool). unit_if (b && live (s / 8))) part)
        ∙ sym (ap (λ (b : Bool). cond b (unit_if v) (once live s)) (ne_eqb s (n * 8) ne))
  ]
]

pub live_ended : (live : ℕ → Bool) (xs : List ℕ) (n : ℕ) → ((s : ℕ) → times s xs ≡ once live s) → (s : ℕ) → times s (others (n * 8) xs) ≡ once (set live n false) s
live_ended live xs n h s = times_others s (n * 8) xs ∙ ap (λ (k : ℕ). cond (eqb s (n * 8)) 0 k) (h s) ∙ sym (changed false live s n)

pub live_made : (live : ℕ → Bool) (xs : List ℕ) (n : ℕ) → ((s : ℕ) → times s xs ≡ once live s) → (s : ℕ) → times s (others (n * 8) xs ++ n * 8 ∷ []) ≡ once (set live n true) s
live_made live xs n h s =
    times_push s (n * 8) (others (n * 8) xs) ∙ ap (λ (k : ℕ). k + cond (eqb (n * 8) s) 1 0) (times_others s (n * 8) xs ∙ ap (λ (k : ℕ). cond (eqb s (n * 8)) 0 k) (h s))
    ∙ joined ∙ sym (changed true live s n)
  where
    joined : cond (eqb s (n * 8)) 0 (once live s) + cond (eqb (n * 8) s) 1 0 ≡ cond (eqb s (n * 8)) 1 (once live s)
    joined = elim (cases_eq s (n * 8)) [
      | inl e ↦ ap (λ (b : Bool). cond b 0 (once live s) + cond (eqb (n * 8) s) 1 0) (eq-eqb s (n * 8) e) ∙ ap (λ (b : Bool). 0 + cond b 1 0) (eq-eqb (n * 8) s (sym e))
          ∙ sym (ap (λ (b : Bool). cond b 1 (once live s)) (eq-eqb s (n * 8) e))
      | inr ne ↦ ap (λ (b : Bool). cond b 0 (once live s) + cond (eqb (n * 8) s) 1 0) (ne_eqb s (n * 8) ne) ∙ ap (λ (b : Bool). once live s + cond b 1 0) (ne_eqb (n * 8) s (λ h. ne (sym h))) ∙ omega arith
          ∙ sym (ap (λ (b : Bool). cond b 1 (once live s)) (ne_eqb s (n * 8) ne))
    ]
