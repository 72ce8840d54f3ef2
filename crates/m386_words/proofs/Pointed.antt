-- Parts between colons, of which there are too many.
use Rattle.std.proofs.Common.{◌≡◌, Bool, true, false, cond, List, [], ◌∷◌, refl}
use Rattle.std.specs.Prelude.{None}
use Rattle.m386_words.specs.Text.{Token, with_token, parts_by}
use Rattle.m386_words.specs.Operands.{pointed}

too_many_by : (c : Bool) (s o : List Token) (t : Token) (ps : List (List Token)) → pointed (s ∷ o ∷ cond c ([] ∷ ps) (with_token t ps)) ≡ None
too_many_by true s o t ps = refl
too_many_by false s o t [] = refl
too_many_by false s o t (p ∷ ps) = refl

-- behind two parts stand others
pub too_many : (s o : List Token) (f : Token → Bool) (ts : List Token) → pointed (s ∷ o ∷ parts_by f ts) ≡ None
unfolding parts_by
too_many s o f [] = refl
too_many s o f (t ∷ ts) = too_many_by (f t) s o t (parts_by f ts)
