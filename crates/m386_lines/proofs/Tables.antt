-- A word looked for in a table, row by row.
use Rattle.std.proofs.Common.{◌≡◌, ℕ, zero, suc, ◌+◌, ◌-◌, ◌<◌, ◌≤◌, Bool, true, false, ◌&&◌, ◌||◌, not, List, [], ◌∷◌, length, take, drop, get_or, map, refl, sym, ◌∙◌, ap, arith}
use Rattle.std.proofs.Math.Seq.{take-length}
use Rattle.std.specs.Prelude.{Option, None, Some, ◌==◌}
use Rattle.std.specs.List.{list_any}
use Rattle.std.specs.Borrow.{Bor}
use Rattle.std.specs.Option.{option_map}
use Rattle.m386_words.specs.Text.{Token}
use Rattle.m386_words.specs.Words.{same_word, place_among}
use Rattle.m386_lines.specs.declared.directive.Form.{Form}
use Rattle.m386_lines.specs.declared.directive.Setting.{Setting}
use Rattle.m386_lines.specs.Directives.{Directive, are_distinct, form_among, has_field}
use Rattle.m386_lines.specs.Seen.{field_seen, form_means, row_means, words_seen}

-- the list of what is left, by its first
parts : {A : Type 0} (i : ℕ) (xs : List A) (d : A) → i < length xs → drop i xs ≡ get_or xs i d ∷ drop (i + 1) xs
parts i [] d h = absurd (omega (arith, h))
parts zero (x ∷ xs) d h = refl
parts (suc i) (x ∷ xs) d h = let q : suc i + 1 ≡ suc (i + 1) = omega arith in rw q (parts i xs d (omega (arith, h)))

none_left : {A : Type 0} (i : ℕ) (xs : List A) → length xs ≤ i → drop i xs ≡ []
none_left zero [] h = refl
none_left (suc i) [] h = refl
none_left zero (x ∷ xs) h = absurd (omega (arith, h))
none_left (suc i) (x ∷ xs) h = none_left i xs (omega (arith, h))

-- ---- directives

-- what a word means by the rows that are left
abbrev pub left_forms : ℕ → List (Bor (List ℕ) × Form) → List ℕ → Option (List Token → Option Directive)
left_forms i rows w = form_among (map row_means (drop i rows)) w

-- another word
pub form_goes_on : (i : ℕ) (rows : List (Bor (List ℕ) × Form)) (d : Bor (List ℕ) × Form) (w : List ℕ) → i < length rows → same_word (get_or rows i d).0.now w ≡ false → left_forms (i + 1) rows w ≡ left_forms i rows w
unfolding form_among
form_goes_on i rows d w h e = sym (ap (λ rs. form_among (map row_means rs) w) (parts i rows d h) ∙ rw e refl)

-- the word
pub form_stands : (i : ℕ) (rows : List (Bor (List ℕ) × Form)) (d : Bor (List ℕ) × Form) (w : List ℕ) → i < length rows → same_word (get_or rows i d).0.now w ≡ true → left_forms i rows w ≡ Some (form_means (get_or rows i d).1)
unfolding form_among
form_stands i rows d w h e = ap (λ rs. form_among (map row_means rs) w) (parts i rows d h) ∙ rw e refl

-- no row is left
pub form_ends : (i : ℕ) (rows : List (Bor (List ℕ) × Form)) (w : List ℕ) → length rows ≤ i → left_forms i rows w ≡ None
unfolding form_among
form_ends i rows w h = ap (λ rs. form_among (map row_means rs) w) (none_left i rows h)

pub ruleset forms = (form_goes_on, form_stands, form_ends)

-- ---- fields

any_field : (n : ℕ) (fs : List Setting) → has_field n (map field_seen fs) ≡ list_any (λ (f : Setting). f.number == n) fs
any_field n [] = refl
any_field n (f ∷ fs) = ap (λ b. (f.number == n) || b) (any_field n fs)

-- what stands behind the first field
abbrev pub others : List Setting → List Setting
others fs = take (length fs - 1) (drop 1 fs)

-- whether one of the others has the number of the first
abbrev pub is_again : List Setting → Setting → Bool
is_again fs first = list_any (λ (f : Setting). f.number == first.number) (others fs)

distinct_by : (fs : List Setting) (first : Setting) → 1 ≤ length fs → first ≡ get_or fs 0 first → are_distinct (map field_seen fs) ≡ not (is_again fs first) && are_distinct (map field_seen (others fs))
unfolding are_distinct
distinct_by [] first h e = absurd (omega (arith, h))
distinct_by (f ∷ fs) first h e =
    let q : length (f ∷ fs) - 1 ≡ length fs = omega arith in
    let g : first ≡ f = e in
    rw q (rw (take-length fs) (rw g (rw (any_field f.number fs) refl)))

-- the first field stands again
pub stands_twice : (fs : List Setting) (first : Setting) → 1 ≤ length fs → first ≡ get_or fs 0 first → is_again fs first ≡ true → are_distinct (map field_seen fs) ≡ false
stands_twice fs first h e a = distinct_by fs first h e ∙ rw a refl

-- it doesn't
pub stands_once : (fs : List Setting) (first : Setting) → 1 ≤ length fs → first ≡ get_or fs 0 first → is_again fs first ≡ false → are_distinct (map field_seen fs) ≡ are_distinct (map field_seen (others fs))
stands_once fs first h e a = distinct_by fs first h e ∙ rw a refl

-- ---- places

-- a place behind others
abbrev pub further : ℕ → Option ℕ → Option ℕ
further i o = option_map (λ n. i + n) o

-- the place of a word by the words that are left
abbrev pub left_place : ℕ → List (Bor (List ℕ)) → List ℕ → Option ℕ
left_place i ws w = further i (place_among (words_seen (drop i ws)) w)

pub place_begins : (ws : List (Bor (List ℕ))) (w : List ℕ) → left_place 0 ws w ≡ place_among (words_seen ws) w
place_begins ws w = by (place_among (words_seen ws) w)
  where
    by : (o : Option ℕ) → further 0 o ≡ o
    by None = refl
    by (Some n) = let q : 0 + n ≡ n = omega arith in ap Some q

behind_other : (x : List ℕ) (xs : List (List ℕ)) (w : List ℕ) (o : Option ℕ) → place_among xs w ≡ o → same_word x w ≡ false → place_among (x ∷ xs) w ≡ option_map suc o
unfolding place_among
behind_other x xs w None e f = rw (f, e) refl
behind_other x xs w (Some n) e f = rw (f, e) refl

one_further : (i : ℕ) (o : Option ℕ) → further (i + 1) o ≡ further i (option_map suc o)
one_further i None = refl
one_further i (Some n) = let q : i + 1 + n ≡ i + suc n = omega arith in ap Some q

-- another word
pub place_goes_on : (i : ℕ) (ws : List (Bor (List ℕ))) (d : Bor (List ℕ)) (w : List ℕ) → i < length ws → same_word (get_or ws i d).now w ≡ false → left_place (i + 1) ws w ≡ left_place i ws w
place_goes_on i ws d w h e =
    one_further i (place_among (words_seen (drop (i + 1) ws)) w)
    ∙ ap (further i) (sym (behind_other (get_or ws i d).now (words_seen (drop (i + 1) ws)) w (place_among (words_seen (drop (i + 1) ws)) w) refl e))
    ∙ ap (λ us. further i (place_among (words_seen us) w)) (sym (parts i ws d h))

-- the word
pub place_stands : (i : ℕ) (ws : List (Bor (List ℕ))) (d : Bor (List ℕ)) (w : List ℕ) → i < length ws → same_word (get_or ws i d).now w ≡ true → left_place i ws w ≡ Some i
unfolding place_among
place_stands i ws d w h e =
    ap (λ us. further i (place_among (words_seen us) w)) (parts i ws d h)
    ∙ rw e (let q : i + 0 ≡ i = omega arith in ap Some q)

-- no word is left
pub place_ends : (i : ℕ) (ws : List (Bor (List ℕ))) (w : List ℕ) → length ws ≤ i → left_place i ws w ≡ None
unfolding place_among
place_ends i ws w h = ap (λ us. further i (place_among (words_seen us) w)) (none_left i ws h)

pub ruleset places = (place_begins, place_goes_on, place_stands, place_ends)
