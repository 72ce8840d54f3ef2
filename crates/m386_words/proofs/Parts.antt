-- The parts of a list of tokens.
use Rattle.std.proofs.Common.{◌≡◌, ℕ, zero, suc, ◌+◌, ◌<◌, ◌≤◌, Bool, true, false, List, [], ◌∷◌, length, take, drop, get_or, map, ◌++◌, refl, sym, ◌∙◌, ap, arith, append-nil}
use Rattle.m386_words.specs.Text.{Token, is_blank, with_token, parts_by, solid}
use Rattle.m386_words.specs.Tokens.{seen}
use Rattle.m386_words.specs.declared.token.Token.{Token as Seen}

-- tokens before the first part
unfoldable pub before : List Token → List (List Token) → List (List Token)
before [] ps = ps
before (t ∷ ts) ps = with_token t (before ts ps)

-- the parts of tokens, by those looked at and those behind
abbrev pub split_at : (Token → Bool) → ℕ → List Seen → List (List Token)
split_at f i ts = before (map seen (take i ts)) (parts_by f (map seen (drop i ts)))

pub part_begins : (f : Token → Bool) (ts : List Seen) → split_at f 0 ts ≡ parts_by f (map seen ts)
unfolding before
part_begins f ts = refl

pub part_goes_on : (f : Token → Bool) (i : ℕ) (ts : List Seen) (d : Seen) → i < length ts → f (seen (get_or ts i d)) ≡ false → split_at f (i + 1) ts ≡ split_at f i ts
unfolding before parts_by
part_goes_on f i [] d h e = absurd (omega (arith, h))
part_goes_on f zero (t ∷ ts) d h e = rw e refl
part_goes_on f (suc i) (t ∷ ts) d h e = let q : suc i + 1 ≡ suc (i + 1) = omega arith in rw q (ap (with_token (seen t)) (part_goes_on f i ts d (omega (arith, h)) e))

pub part_ends : (f : Token → Bool) (i : ℕ) (ts : List Seen) (d : Seen) → i < length ts → f (seen (get_or ts i d)) ≡ true → split_at f i ts ≡ map seen (take i ts) ∷ parts_by f (map seen (drop (i + 1) ts))
unfolding before parts_by
part_ends f i [] d h e = absurd (omega (arith, h))
part_ends f zero (t ∷ ts) d h e = rw e refl
part_ends f (suc i) (t ∷ ts) d h e = let q : suc i + 1 ≡ suc (i + 1) = omega arith in rw q (ap (with_token (seen t)) (part_ends f i ts d (omega (arith, h)) e))

pub part_is_last : (f : Token → Bool) (i : ℕ) (ts : List Seen) → length ts ≤ i → split_at f i ts ≡ map seen ts ∷ []
unfolding before parts_by
part_is_last f zero [] h = refl
part_is_last f (suc i) [] h = refl
part_is_last f zero (t ∷ ts) h = absurd (omega (arith, h))
part_is_last f (suc i) (t ∷ ts) h = ap (with_token (seen t)) (part_is_last f i ts (omega (arith, h)))

pub ruleset parts = (part_begins, part_goes_on, part_ends, part_is_last)

-- a blank is passed over
pub blank_left : (i : ℕ) (ts : List Seen) (d : Seen) → i < length ts → is_blank (seen (get_or ts i d)) ≡ true → solid (map seen (drop (i + 1) ts)) ≡ solid (map seen (drop i ts))
unfolding solid
blank_left i [] d h e = absurd (omega (arith, h))
blank_left zero (t ∷ ts) d h e = rw e refl
blank_left (suc i) (t ∷ ts) d h e = let q : suc i + 1 ≡ suc (i + 1) = omega arith in rw q (blank_left i ts d (omega (arith, h)) e)

solid_first : (i : ℕ) (ts : List Seen) (d : Seen) → i < length ts → is_blank (seen (get_or ts i d)) ≡ false → solid (map seen (drop i ts)) ≡ seen (get_or ts i d) ∷ solid (map seen (drop (i + 1) ts))
unfolding solid
solid_first i [] d h e = absurd (omega (arith, h))
solid_first zero (t ∷ ts) d h e = rw e refl
solid_first (suc i) (t ∷ ts) d h e = let q : suc i + 1 ≡ suc (i + 1) = omega arith in rw q (solid_first i ts d (omega (arith, h)) e)

onto : (ws : List Seen) (t : Seen) (us : List Token) → map seen (ws ++ t ∷ []) ++ us ≡ map seen ws ++ seen t ∷ us
onto [] t us = refl
onto (w ∷ ws) t us = ap (λ xs. seen w ∷ xs) (onto ws t us)

-- another token is kept
pub solid_kept : (ws : List Seen) (i : ℕ) (ts : List Seen) (d : Seen) → i < length ts → is_blank (seen (get_or ts i d)) ≡ false →
    map seen (ws ++ get_or ts i d ∷ []) ++ solid (map seen (drop (i + 1) ts)) ≡ map seen ws ++ solid (map seen (drop i ts))
solid_kept ws i ts d h e = onto ws (get_or ts i d) (solid (map seen (drop (i + 1) ts))) ∙ ap (λ us. map seen ws ++ us) (sym (solid_first i ts d h e))

pub solid_is_all : (ws : List Seen) (i : ℕ) (ts : List Seen) → length ts ≤ i → map seen ws ++ solid (map seen (drop i ts)) ≡ map seen ws
unfolding solid
solid_is_all ws i ts h = ap (λ us. map seen ws ++ us) (none_left i ts h) ∙ append-nil (map seen ws)
  where
    none_left : (i : ℕ) (ts : List Seen) → length ts ≤ i → solid (map seen (drop i ts)) ≡ []
    none_left zero [] h = refl
    none_left (suc i) [] h = refl
    none_left zero (t ∷ ts) h = absurd (omega (arith, h))
    none_left (suc i) (t ∷ ts) h = none_left i ts (omega (arith, h))

pub ruleset solids = (blank_left, solid_kept, solid_is_all)
