-- The order of spellings is one.
use Rattle.std.proofs.Common.{◌≡◌, ℕ, ◌<◌, ◌≤◌, List, [], ◌∷◌, length, Bool, true, false, refl, arith, ◌++◌, length-append, inl, inr}
use Rattle.std.specs.Prelude.{nat_lt}
use Rattle.std.proofs.lemmas.Bool.{cases_Bool, ltb-true, ltb-false}
use Rattle.std.proofs.lemmas.Bool.Decides.{nat_tests}
use Rattle.m386_encode.specs.Order.{is_less, is_before}

pub less_self : (xs : List ℕ) → is_less xs xs ≡ false
unfolding is_less
less_self [] = refl
less_self (x ∷ xs) = grind (arith, nat_tests, less_self xs)

pub less_trans : (xs ys zs : List ℕ) → is_less xs ys ≡ true → is_less ys zs ≡ true → is_less xs zs ≡ true
unfolding is_less
less_trans [] ys zs p q = cc
less_trans (x ∷ xs) [] zs p q = cc
less_trans (x ∷ xs) (y ∷ ys) [] p q = cc
less_trans (x ∷ xs) (y ∷ ys) (z ∷ zs) p q = let next : is_less xs ys ≡ true → is_less ys zs ≡ true → is_less xs zs ≡ true = less_trans xs ys zs in grind (arith, nat_tests, next)

pub before_self : (xs : List ℕ) → is_before xs xs ≡ false
unfolding is_before
before_self xs = grind (arith, nat_tests, less_self xs)

pub before_trans : (xs ys zs : List ℕ) → is_before xs ys ≡ true → is_before ys zs ≡ true → is_before xs zs ≡ true
unfolding is_before
before_trans xs ys zs p q = let next : is_less xs ys ≡ true → is_less ys zs ≡ true → is_less xs zs ≡ true = less_trans xs ys zs in grind (arith, nat_tests, next)

kept : (a b : Bool) → (a ≡ true → b ≡ true) → b ≡ false → a ≡ false
kept true b f e = let t : b ≡ true = f refl in cc
kept false b f e = refl

-- what comes not before some bytes comes not before earlier ones
pub before_kept : (other xs ys : List ℕ) → is_before xs ys ≡ true → is_before other ys ≡ false → is_before other xs ≡ false
before_kept other xs ys p e = kept _ _ (λ q. before_trans other xs ys q p) e

not_less_trans : (xs ys zs : List ℕ) → length xs ≡ length ys → is_less xs ys ≡ false → is_less ys zs ≡ false → is_less xs zs ≡ false
unfolding is_less
not_less_trans [] ys zs h p q = refl
not_less_trans (x ∷ xs) [] zs h p q = absurd (omega (arith, h))
not_less_trans (x ∷ xs) (y ∷ ys) [] h p q = refl
not_less_trans (x ∷ xs) (y ∷ ys) (z ∷ zs) h p q =
    let next : is_less xs ys ≡ false → is_less ys zs ≡ false → is_less xs zs ≡ false = not_less_trans xs ys zs (omega (arith, h)) in grind (arith, nat_tests, next, p, q)

-- what comes not before bytes that come not before others comes not before these
pub not_before_trans : (xs ys zs : List ℕ) → is_before xs ys ≡ false → is_before ys zs ≡ false → is_before xs zs ≡ false
unfolding is_before
not_before_trans xs ys zs p q = let next : length xs ≡ length ys → is_less xs ys ≡ false → is_less ys zs ≡ false → is_less xs zs ≡ false = not_less_trans xs ys zs in grind (arith, nat_tests, next, p, q)

-- a byte that is not greater, and then bytes that are not
pub less_step : (x y : ℕ) (xs ys : List ℕ) → y ≤ x → is_less xs ys ≡ false → is_less (x ∷ xs) (y ∷ ys) ≡ false
unfolding is_less
less_step x y xs ys h e = grind (arith, nat_tests, e)

-- bytes of the same length come not before others where they are not less
pub not_before : (xs ys : List ℕ) → length xs ≡ length ys → is_less xs ys ≡ false → is_before xs ys ≡ false
unfolding is_before
not_before xs ys h e = grind (arith, nat_tests, e)

-- longer bytes come not before others
pub not_before_longer : (xs ys : List ℕ) → length ys < length xs → is_before xs ys ≡ false
unfolding is_before
not_before_longer xs ys h = grind (arith, nat_tests)

less_append : (xs ys us vs : List ℕ) → length xs ≡ length ys → is_less xs ys ≡ false → is_less us vs ≡ false → is_less (xs ++ us) (ys ++ vs) ≡ false
unfolding is_less
less_append [] [] us vs h p q = q
less_append (x ∷ xs) [] us vs h p q = absurd (omega (arith, h))
less_append [] (y ∷ ys) us vs h p q = absurd (omega (arith, h))
less_append (x ∷ xs) (y ∷ ys) us vs h p q =
    let next : is_less xs ys ≡ false → is_less (xs ++ us) (ys ++ vs) ≡ false = λ r. less_append xs ys us vs (omega (arith, h)) r q in
    grind (arith, nat_tests, next, p)

-- what no others come before is at most as long as they
pub not_longer : (xs ys : List ℕ) → is_before xs ys ≡ false → length ys ≤ length xs
unfolding is_before
not_longer xs ys p = grind (arith, nat_tests, p)

not_less : (xs ys : List ℕ) → is_before xs ys ≡ false → length xs ≡ length ys → is_less xs ys ≡ false
unfolding is_before
not_less xs ys p h = grind (arith, nat_tests, p, h)

-- where no part comes before another, nor do they one behind the other
pub before_append : (xs ys us vs : List ℕ) → is_before xs ys ≡ false → is_before us vs ≡ false → is_before (xs ++ us) (ys ++ vs) ≡ false
before_append xs ys us vs p q =
    let h = not_longer xs ys p in
    let k = not_longer us vs q in
    elim (cases_Bool (nat_lt (length (ys ++ vs)) (length (xs ++ us)))) [
      | inl e ↦ not_before_longer (xs ++ us) (ys ++ vs) (ltb-true (length (ys ++ vs)) (length (xs ++ us)) e)
      | inr e ↦ (let l = ltb-false (length (ys ++ vs)) (length (xs ++ us)) e in
          let s : length xs ≡ length ys = omega (arith, l, h, k, length-append xs us, length-append ys vs) in
          let t : length us ≡ length vs = omega (arith, l, h, k, length-append xs us, length-append ys vs) in
          not_before (xs ++ us) (ys ++ vs) (omega (arith, s, t, length-append xs us, length-append ys vs)) (less_append xs ys us vs s (not_less xs ys p s) (not_less us vs q t)))
    ]

pub ruleset ordered = (before_self, before_kept)
