-- The digits that a number has yet to read.
use Rattle.std.proofs.Common.{◌≡◌, ℕ, ◌+◌, ◌*◌, ◌^◌, ◌<◌, ◌≤◌, Bool, true, false, cond, nat_lt, List, [], ◌∷◌, length, drop, get_or, refl, ◌∙◌, ap, add-one, drop-cons, arith}
use Rattle.std.specs.Prelude.{Some, None}
use Rattle.std.proofs.lemmas.List.{drop_all}
use Rattle.std.proofs.lemmas.Bool.{ltb-true, lt-ltb}
use Rattle.m386_words.specs.Words.{digit, numeral, within}

numeral_next : (base value : ℕ) (bs : List ℕ) (i : ℕ) → i < length bs →
    numeral base value (drop i bs) ≡ cond (nat_lt (digit (get_or bs i 0)) base) (numeral base (base * value + digit (get_or bs i 0)) (drop (i + 1) bs)) None
unfolding numeral
numeral_next base value bs i h = rw (drop-cons bs i 0 h) (rw (add-one i) refl)

numeral_end : (base value : ℕ) (bs : List ℕ) (i : ℕ) → length bs ≤ i → numeral base value (drop i bs) ≡ Some value
unfolding numeral
numeral_end base value bs i h = rw (drop_all i bs h) refl

small : (n : ℕ) → n < 2 ^ 32 → within (Some n) ≡ Some n
small n h = rw (lt-ltb n (2 ^ 32) h) refl

large_by : (b : Bool) (n : ℕ) → nat_lt n (2 ^ 32) ≡ b → 2 ^ 32 ≤ n → cond b (Some n) None ≡ None
large_by true n e h = absurd (omega (arith, ltb-true n (2 ^ 32) e, h))
large_by false n e h = refl

large : (n : ℕ) → 2 ^ 32 ≤ n → within (Some n) ≡ None
large n h = large_by (nat_lt n (2 ^ 32)) n refl h

more : (base value d : ℕ) → d < base → 2 ^ 32 ≤ value → 2 ^ 32 ≤ base * value + d
more base value d l h = more_by base value d (base * value) refl l h
  where
    more_by : (base value d p : ℕ) → p ≡ base * value → d < base → 2 ^ 32 ≤ value → 2 ^ 32 ≤ p + d
    more_by base value d p e l h = grind (arith, e, l, h)

too_large_by : (c : Bool) (base value b : ℕ) (bs : List ℕ) → nat_lt (digit b) base ≡ c → ((v : ℕ) → 2 ^ 32 ≤ v → within (numeral base v bs) ≡ None) → 2 ^ 32 ≤ value → within (cond c (numeral base (base * value + digit b) bs) None) ≡ None
too_large_by true base value b bs e f h = f (base * value + digit b) (more base value (digit b) (ltb-true (digit b) base e) h)
too_large_by false base value b bs e f h = refl

-- what is too large stays so
too_large : (base value : ℕ) (bs : List ℕ) → 2 ^ 32 ≤ value → within (numeral base value bs) ≡ None
unfolding numeral
too_large base value [] h = large value h
too_large base value (b ∷ bs) h = too_large_by (nat_lt (digit b) base) base value b bs refl (λ v k. too_large base v bs k) h

-- a digit of the base is read
pub read_digit : (base value : ℕ) (bs : List ℕ) (i d : ℕ) → i < length bs → d ≡ digit (get_or bs i 0) → d < base →
    within (numeral base value (drop i bs)) ≡ within (numeral base (base * value + d) (drop (i + 1) bs))
read_digit base value bs i d h e l = let t : nat_lt (digit (get_or bs i 0)) base ≡ true = lt-ltb (digit (get_or bs i 0)) base (omega (arith, e, l)) in
    rw (numeral_next base value bs i h) (rw t (rw e refl))

-- another byte ends it
pub read_other : (base value : ℕ) (bs : List ℕ) (i d : ℕ) → i < length bs → d ≡ digit (get_or bs i 0) → base ≤ d → within (numeral base value (drop i bs)) ≡ None
read_other base value bs i d h e l = other_by (nat_lt (digit (get_or bs i 0)) base) refl
  where
    other_by : (c : Bool) → nat_lt (digit (get_or bs i 0)) base ≡ c → within (numeral base value (drop i bs)) ≡ None
    other_by true t = absurd (omega (arith, ltb-true (digit (get_or bs i 0)) base t, e, l))
    other_by false t = rw (numeral_next base value bs i h) (rw t refl)

-- a number too large is none
pub read_large : (base value : ℕ) (bs : List ℕ) (i d : ℕ) → i < length bs → d ≡ digit (get_or bs i 0) → d < base → 2 ^ 32 ≤ base * value + d → within (numeral base value (drop i bs)) ≡ None
read_large base value bs i d h e l k = read_digit base value bs i d h e l ∙ too_large base (base * value + d) (drop (i + 1) bs) k

pub read_all : (base value : ℕ) (bs : List ℕ) (i : ℕ) → length bs ≤ i → value < 2 ^ 32 → within (numeral base value (drop i bs)) ≡ Some value
read_all base value bs i h l = ap within (numeral_end base value bs i h) ∙ small value l

pub ruleset reads = (read_digit, read_other, read_large, read_all)
