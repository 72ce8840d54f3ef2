-- Decimal digits that a loop has yet to read.
use Rattle.std.proofs.Common.{◌≡◌, ℕ, ◌+◌, ◌-◌, ◌*◌, ◌<◌, ◌≤◌, Bool, true, false, ◌&&◌, nat_le, cond, Some, None, List, [], ◌∷◌, length, drop, get_or, refl, arith, add-one, drop-cons}
use Rattle.std.specs.Char.{is_ascii_digit}
use Rattle.std.proofs.lemmas.List.{drop_all}
use Rattle.std.specs.Str.{all_ascii_digits}
use Rattle.m386_calls.specs.Words.{digits_on, number_in}

pub digits_next : (ds : List ℕ) (i : ℕ) → i < length ds → all_ascii_digits (drop i ds) ≡ (is_ascii_digit (get_or ds i 0) && all_ascii_digits (drop (i + 1) ds))
digits_next ds i h = rw (drop-cons ds i 0 h) (rw (add-one i) refl)

pub digits_end : (ds : List ℕ) (i : ℕ) → length ds ≤ i → all_ascii_digits (drop i ds) ≡ true
digits_end ds i h = rw (drop_all i ds h) refl

pub read_next : (n : ℕ) (ds : List ℕ) (i : ℕ) → i < length ds → digits_on n (drop i ds) ≡ digits_on (n * 10 + (get_or ds i 0 - 48)) (drop (i + 1) ds)
read_next n ds i h = rw (drop-cons ds i 0 h) (rw (add-one i) refl)

pub read_end : (n : ℕ) (ds : List ℕ) (i : ℕ) → length ds ≤ i → digits_on n (drop i ds) ≡ n
read_end n ds i h = rw (drop_all i ds h) refl

-- a number read so far only grows
pub read_grows : (n : ℕ) (ds : List ℕ) → n ≤ digits_on n ds
read_grows n [] = omega arith
read_grows n (d ∷ ds) = let h : n * 10 + (d - 48) ≤ digits_on (n * 10 + (d - 48)) ds = read_grows (n * 10 + (d - 48)) ds in omega (arith, h)

-- a text that has something else than digits is no number
pub no_number_digits : (most : ℕ) (text : List ℕ) → all_ascii_digits text ≡ false → number_in most text ≡ None
no_number_digits most text h = rw h (go (nat_le 1 (length text) && nat_le (length text) 20))
  where
    go : (b : Bool) → cond (b && false && nat_le (digits_on 0 text) most) (Some (digits_on 0 text)) None ≡ None
    go true = refl
    go false = refl

-- a number above the limit is none
pub no_number_large : (most : ℕ) (text : List ℕ) → nat_le (digits_on 0 text) most ≡ false → number_in most text ≡ None
no_number_large most text h = rw h (go (nat_le 1 (length text) && nat_le (length text) 20 && all_ascii_digits text))
  where
    go : (b : Bool) → cond (b && false) (Some (digits_on 0 text)) None ≡ None
    go true = refl
    go false = refl

pub ruleset reading = (digits_next, digits_end, read_next, read_end, read_grows, no_number_digits, no_number_large)
