-- What stands before the `]` at the end of a list of tokens.
use Rattle.std.proofs.Common.{◌≡◌, ℕ, zero, suc, ◌+◌, ◌<◌, true, false, List, [], ◌∷◌, length, take, get_or, map, refl, ap, arith}
use Rattle.std.specs.Prelude.{Some, None}
use Rattle.std.specs.Option.{option_map}
use Rattle.m386_words.specs.Operands.{is_close, inside}
use Rattle.m386_words.specs.Tokens.{seen}
use Rattle.m386_words.specs.declared.token.Token.{Token as Seen}

pub nothing_inside : (ts : List Seen) → length ts < 1 → inside (map seen ts) ≡ None
unfolding inside
nothing_inside [] h = refl
nothing_inside (t ∷ ts) h = absurd (omega (arith, h))

-- the last token is `]`
pub closed_at : (n : ℕ) (ts : List Seen) (d : Seen) → length ts ≡ n + 1 → is_close (seen (get_or ts n d)) ≡ true → inside (map seen ts) ≡ Some (map seen (take n ts))
unfolding inside
closed_at n [] d h e = absurd (omega (arith, h))
closed_at zero (t ∷ []) d h e = rw e refl
closed_at zero (t ∷ u ∷ ts) d h e = absurd (omega (arith, h))
closed_at (suc n) (t ∷ []) d h e = absurd (omega (arith, h))
closed_at (suc n) (t ∷ u ∷ ts) d h e = ap (option_map (λ us. seen t ∷ us)) (closed_at n (u ∷ ts) d (omega (arith, h)) e)

-- it is another one
pub open_at : (n : ℕ) (ts : List Seen) (d : Seen) → length ts ≡ n + 1 → is_close (seen (get_or ts n d)) ≡ false → inside (map seen ts) ≡ None
unfolding inside
open_at n [] d h e = absurd (omega (arith, h))
open_at zero (t ∷ []) d h e = rw e refl
open_at zero (t ∷ u ∷ ts) d h e = absurd (omega (arith, h))
open_at (suc n) (t ∷ []) d h e = absurd (omega (arith, h))
open_at (suc n) (t ∷ u ∷ ts) d h e = ap (option_map (λ us. seen t ∷ us)) (open_at n (u ∷ ts) d (omega (arith, h)) e)

pub ruleset insides = (nothing_inside, closed_at, open_at)
