-- The prefixes that are wanted, rising, come not after others that say as much.
use Rattle.std.proofs.Common.{◌≡◌, ◌≢◌, ℕ, ◌+◌, ◌<◌, ◌≤◌, inl, inr, Bool, true, false, cond, List, [], ◌∷◌, length, refl, sym, arith, nat_lt}
use Rattle.std.specs.Prelude.{◌==◌}
use Rattle.std.specs.List.{list_any}
use Rattle.std.proofs.lemmas.Bool.{cases_Bool, eqb-true, ltb-true, ltb-false}
use Rattle.std.proofs.lemmas.Bool.Decides.{nat_tests}
use Rattle.m386_encode.specs.Order.{is_before, is_less}
use Rattle.m386_encode.proofs.Ordered.{less_step, not_before, not_before_longer}

-- a byte is one of these
abbrev pub Within : ℕ → List ℕ → Type 0
Within x bs = list_any (λ b. b == x) bs ≡ true

-- each is one of these
abbrev pub AllWithin : List ℕ → List ℕ → Type 0
AllWithin [] bs = Unit {0}
AllWithin (x ∷ xs) bs = Within x bs × AllWithin xs bs

-- rising from a number on
abbrev pub AscendsFrom : ℕ → List ℕ → Type 0
AscendsFrom n [] = Unit {0}
AscendsFrom n (x ∷ xs) = (n ≤ x) × AscendsFrom (x + 1) xs

skip : (x y : ℕ) (bs : List ℕ) → x ≢ y → Within x (y ∷ bs) → Within x bs
skip x y bs n h = let other : (y == x) ≡ false = grind (arith, nat_tests) in rw other at h

shift : (n y : ℕ) (xs bs : List ℕ) → y < n → AscendsFrom n xs → AllWithin xs (y ∷ bs) → AllWithin xs bs
shift n y [] bs h r a = tt
shift n y (x ∷ xs) bs h r a = (skip x y bs (λ e. absurd (omega (arith, e, r.0, h))) a.0, shift (x + 1) y xs bs (omega (arith, r.0, h)) r.1 a.1)

-- the list without a byte
without : ℕ → List ℕ → List ℕ
without y [] = []
without y (x ∷ xs) = cond (x == y) xs (x ∷ without y xs)

without_by : (c : Bool) (y x : ℕ) (xs bs : List ℕ) → (x == y) ≡ c → (c ≡ true → AllWithin xs bs) → (c ≡ false → Within x bs × AllWithin (without y xs) bs) → AllWithin (cond c xs (x ∷ without y xs)) bs
without_by true y x xs bs e f g = f refl
without_by false y x xs bs e f g = g refl

without_within : (n y : ℕ) (xs bs : List ℕ) → AscendsFrom n xs → AllWithin xs (y ∷ bs) → AllWithin (without y xs) bs
unfolding without
without_within n y [] bs r a = tt
without_within n y (x ∷ xs) bs r a =
    without_by (x == y) y x xs bs refl
    (λ e. let s : x ≡ y = eqb-true x y e in shift (x + 1) y xs bs (omega (arith, s)) r.1 a.1)
    (λ e. (skip x y bs (λ s. let t : (x == y) ≡ true = grind (arith, nat_tests) in cc) a.0, without_within (x + 1) y xs bs r.1 a.1))

size_by : (c : Bool) (x : ℕ) (xs ys : List ℕ) → length xs ≤ length ys + 1 → length (x ∷ xs) ≤ length (cond c xs (x ∷ ys)) + 1
size_by true x xs ys h = omega arith
size_by false x xs ys h = omega arith

without_size : (y : ℕ) (xs : List ℕ) → length xs ≤ length (without y xs) + 1
unfolding without
without_size y [] = omega arith
without_size y (x ∷ xs) = size_by (x == y) x xs (without y xs) (without_size y xs)

more : (n m : ℕ) (xs : List ℕ) → n ≤ m → AscendsFrom m xs → AscendsFrom n xs
more n m [] h r = tt
more n m (x ∷ xs) h r = (omega (arith, r.0), r.1)

rises_by : (c : Bool) (n x : ℕ) (xs ys : List ℕ) → n ≤ x → AscendsFrom (x + 1) xs → AscendsFrom (x + 1) ys → AscendsFrom n (cond c xs (x ∷ ys))
rises_by true n x xs ys h r s = more n (x + 1) xs (omega arith) r
rises_by false n x xs ys h r s = (h, s)

without_rises : (n y : ℕ) (xs : List ℕ) → AscendsFrom n xs → AscendsFrom n (without y xs)
unfolding without
without_rises n y [] r = tt
without_rises n y (x ∷ xs) r = rises_by (x == y) n x xs (without y xs) r.0 r.1 (without_rises (x + 1) y xs r.1)

-- rising bytes are no more than others that have them all
pub no_more : (n : ℕ) (xs bs : List ℕ) → AscendsFrom n xs → AllWithin xs bs → length xs ≤ length bs
no_more n [] [] r a = omega arith
no_more n (x ∷ xs) [] r a = (let f : false ≡ true = a.0 in cc)
no_more n xs (y ∷ bs) r a = omega (arith, without_size y xs, no_more n (without y xs) bs (without_rises n y xs r) (without_within n y xs bs r a))

less_above : (x y : ℕ) (xs bs : List ℕ) → x < y → is_less (y ∷ bs) (x ∷ xs) ≡ false
unfolding is_less
less_above x y xs bs h = grind (arith, nat_tests)

least : (n : ℕ) (xs bs : List ℕ) → AscendsFrom n xs → AllWithin xs bs → length xs ≡ length bs → is_less bs xs ≡ false
unfolding is_less
least n [] [] r a h = refl
least n (x ∷ xs) [] r a h = absurd (omega (arith, h))
least n [] (y ∷ bs) r a h = absurd (omega (arith, h))
least n (x ∷ xs) (y ∷ bs) r a h =
    elim (cases_Bool (nat_lt x y)) [
      | inl e ↦ less_above x y xs bs (ltb-true x y e)
      | inr e ↦ elim (cases_Bool (nat_lt y x)) [
        | inl d ↦ (let l : y < x = ltb-true y x d in
            let k = no_more x (x ∷ xs) bs (omega arith, r.1) (shift x y (x ∷ xs) bs l (omega arith, r.1) a) in absurd (omega (arith, h, k)))
        | inr d ↦ (let f : y ≤ x = ltb-false x y e in less_step y x bs xs (ltb-false y x d) (least (x + 1) xs bs r.1 (shift (x + 1) y xs bs (omega (arith, f)) r.1 a.1) (omega (arith, h))))
      ]
    ]

-- others that have them all come not before rising bytes
pub rising_first : (n : ℕ) (xs bs : List ℕ) → AscendsFrom n xs → AllWithin xs bs → is_before bs xs ≡ false
rising_first n xs bs r a =
    elim (cases_Bool (nat_lt (length xs) (length bs))) [
      | inl e ↦ not_before_longer bs xs (ltb-true (length xs) (length bs) e)
      | inr e ↦ (let s : length xs ≡ length bs = omega (arith, ltb-false (length xs) (length bs) e, no_more n xs bs r a) in not_before bs xs (sym s) (least n xs bs r a s))
    ]
