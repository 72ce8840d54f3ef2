-- The parts between separators, one by one.
use Rattle.std.proofs.Common.{◌≡◌, ℕ, suc, List, [], ◌∷◌, ◌++◌, length, map, refl, ap, arith, append-nil}
use Rattle.std.specs.Prelude.{Option, None, Some}
use Rattle.std.specs.Borrow.{Bor}
use Rattle.m386_words.specs.declared.token.Token.{Token as SeenToken}
use Rattle.m386_words.specs.Text.{Token, filled}
use Rattle.m386_words.specs.Tokens.{seen}
use Rattle.m386_lines.specs.Seen.{part_seen}

-- how many tokens are left, and one more
abbrev pub left_length : Option (Bor (List SeenToken)) → ℕ
left_length None = 0
left_length (Some ts) = suc (length ts.now)

-- parts behind those that were found
unfoldable pub behind_parts : List (Bor (List SeenToken)) → List (List Token) → List (List Token)
behind_parts found rest = map part_seen found ++ rest

pub parts_begin : (ts : List (List Token)) → behind_parts [] ts ≡ ts
unfolding behind_parts
parts_begin ts = refl

pub part_is_next : (found : List (Bor (List SeenToken))) (p : Bor (List SeenToken)) (rest : List (List Token)) → behind_parts (found ++ p ∷ []) rest ≡ behind_parts found (map seen p.now ∷ rest)
unfolding behind_parts
part_is_next [] p rest = refl
part_is_next (f ∷ fs) p rest = ap (λ ps. part_seen f ∷ ps) (part_is_next fs p rest)

pub parts_end : (found : List (Bor (List SeenToken))) → behind_parts found [] ≡ map part_seen found
unfolding behind_parts
parts_end found = append-nil (map part_seen found)

pub ruleset parts = (parts_begin, part_is_next, parts_end)

-- an empty part is left out
pub empty_left : (p : List SeenToken) (ps : List (List Token)) → length p ≡ 0 → filled (map seen p ∷ ps) ≡ filled ps
unfolding filled
empty_left [] ps h = refl
empty_left (t ∷ ts) ps h = absurd (omega (arith, h))

-- another is kept
pub filled_kept : (p : List SeenToken) (ps : List (List Token)) → (length p ≡ 0 → ⊥) → filled (map seen p ∷ ps) ≡ map seen p ∷ filled ps
unfolding filled
filled_kept [] ps h = absurd (h refl)
filled_kept (t ∷ ts) ps h = refl

pub none_filled : filled [] ≡ []
unfolding filled
none_filled = refl

pub ruleset arguments = (parts_begin, part_is_next, parts_end, empty_left, filled_kept, none_filled)
