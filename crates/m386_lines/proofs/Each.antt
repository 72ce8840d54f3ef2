-- What each part of a list is, if each is something.
use Rattle.std.proofs.Common.{◌≡◌, ℕ, zero, suc, ◌+◌, ◌<◌, ◌≤◌, List, [], ◌∷◌, ◌++◌, length, drop, get_or, map, refl, sym, ◌∙◌, ap, arith, append-nil}
use Rattle.std.specs.Prelude.{Option, None, Some}
use Rattle.std.specs.Borrow.{Bor}
use Rattle.std.specs.Option.{option_map}
use Rattle.m386_words.specs.declared.token.Token.{Token as SeenToken}
use Rattle.m386_words.specs.Options.{all_some}
use Rattle.m386_words.specs.Text.{Token}
use Rattle.m386_lines.specs.Seen.{part_seen}

-- what is found, behind what was found
unfoldable pub after : {A B : Type 0} → (A → B) → List A → Option (List B) → Option (List B)
after see found None = None
after see found (Some more) = Some (map see found ++ more)

-- what parts are, by those looked at and those left
abbrev pub so_far : {A B : Type 0} → (A → B) → (List Token → Option B) → List A → ℕ → List (Bor (List SeenToken)) → Option (List B)
so_far see read found i ps = after see found (all_some (map read (map part_seen (drop i ps))))

parts : (i : ℕ) (ps : List (Bor (List SeenToken))) (d : Bor (List SeenToken)) → i < length ps → drop i ps ≡ get_or ps i d ∷ drop (i + 1) ps
parts i [] d h = absurd (omega (arith, h))
parts zero (t ∷ ts) d h = refl
parts (suc i) (t ∷ ts) d h = let q : suc i + 1 ≡ suc (i + 1) = omega arith in rw q (parts i ts d (omega (arith, h)))

nothing : {A B : Type 0} (see : A → B) (rest : Option (List B)) → after see [] rest ≡ rest
unfolding after
nothing see None = refl
nothing see (Some more) = refl

pub each_begins : {A B : Type 0} (see : A → B) (read : List Token → Option B) (ps : List (Bor (List SeenToken))) → so_far see read [] 0 ps ≡ all_some (map read (map part_seen ps))
each_begins see read ps = nothing see (all_some (map read (map part_seen ps)))

onto : {A B : Type 0} (see : A → B) (found : List A) (x : A) (more : List B) → map see (found ++ x ∷ []) ++ more ≡ map see found ++ see x ∷ more
onto see [] x more = refl
onto see (f ∷ fs) x more = ap (λ ys. see f ∷ ys) (onto see fs x more)

one_more : {A B : Type 0} (see : A → B) (found : List A) (x : A) (rest : Option (List B)) → after see (found ++ x ∷ []) rest ≡ after see found (option_map (λ xs. see x ∷ xs) rest)
unfolding after
one_more see found x None = refl
one_more see found x (Some more) = ap Some (onto see found x more)

-- a part that is something
pub each_goes_on : {A B : Type 0} (see : A → B) (read : List Token → Option B) (found : List A) (x : A) (i : ℕ) (ps : List (Bor (List SeenToken))) (d : Bor (List SeenToken)) → i < length ps →
    Some (see x) ≡ read (part_seen (get_or ps i d)) → so_far see read (found ++ x ∷ []) (i + 1) ps ≡ so_far see read found i ps
unfolding all_some
each_goes_on see read found x i ps d h e =
    one_more see found x (all_some (map read (map part_seen (drop (i + 1) ps))))
    ∙ ap (λ o. after see found (all_some (o ∷ map read (map part_seen (drop (i + 1) ps))))) e
    ∙ ap (λ qs. after see found (all_some (map read (map part_seen qs)))) (sym (parts i ps d h))

-- one that is nothing
pub each_stops : {A B : Type 0} (see : A → B) (read : List Token → Option B) (found : List A) (i : ℕ) (ps : List (Bor (List SeenToken))) (d : Bor (List SeenToken)) → i < length ps →
    None ≡ read (part_seen (get_or ps i d)) → so_far see read found i ps ≡ None
unfolding all_some after
each_stops see read found i ps d h e =
    ap (λ qs. after see found (all_some (map read (map part_seen qs)))) (parts i ps d h)
    ∙ ap (λ o. after see found (all_some (o ∷ map read (map part_seen (drop (i + 1) ps))))) (sym e)

none_left : {A : Type 0} (i : ℕ) (ps : List A) → length ps ≤ i → drop i ps ≡ []
none_left zero [] h = refl
none_left (suc i) [] h = refl
none_left zero (t ∷ ts) h = absurd (omega (arith, h))
none_left (suc i) (t ∷ ts) h = none_left i ts (omega (arith, h))

pub each_ends : {A B : Type 0} (see : A → B) (read : List Token → Option B) (found : List A) (i : ℕ) (ps : List (Bor (List SeenToken))) → length ps ≤ i → so_far see read found i ps ≡ Some (map see found)
unfolding all_some after
each_ends see read found i ps h = ap (λ qs. after see found (all_some (map read (map part_seen qs)))) (none_left i ps h) ∙ ap Some (append-nil (map see found))

pub ruleset each = (each_begins, each_goes_on, each_stops, each_ends)
