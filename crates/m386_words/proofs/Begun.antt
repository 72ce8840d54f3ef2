-- Rows are passed over where their words begin with another letter.
use Rattle.std.proofs.Common.{◌≡◌, ◌≢◌, ℕ, zero, suc, ◌+◌, ◌<◌, ◌≤◌, Bool, true, false, ◌&&◌, ◌||◌, List, [], ◌∷◌, length, drop, get_or, refl, sym, ◌∙◌, ap, arith}
use Rattle.std.specs.Prelude.{Option, Some, None, ◌==◌}
use Rattle.std.specs.List.{list_any}
use Rattle.m386_opmap.specs.declared.row.Row.{Row}
use Rattle.m386_opmap.specs.Operands.{width_of}
use Rattle.m386_words.specs.Mnemonics.{are_letters_of, begins_with, has_word, is_letter_of, is_word, word_of}

both : (a b : Bool) → (a && b) ≡ true → (a ≡ true) × (b ≡ true)
both true true h = (refl, refl)
both true false h = cc
both false b h = cc

-- a word that begins with another letter, or with none
pub another_word : (o : Option (List ℕ)) (l b : ℕ) (bs : List ℕ) → begins_with o l ≡ true → l ≢ b → is_word o (b ∷ bs) ≡ false
another_word None l b bs h n = refl
another_word (Some []) l b bs h n = refl
another_word (Some (c ∷ cs)) l b bs h n = let q : c ≡ l = grind (arith, h) in let r : (c == b) ≡ false = grind (arith, q, n) in rw r refl

pub no_empty_word : (o : Option (List ℕ)) (l : ℕ) → begins_with o l ≡ true → is_word o [] ≡ false
no_empty_word None l h = refl
no_empty_word (Some []) l h = cc
no_empty_word (Some (c ∷ cs)) l h = refl

-- so many letters as rows
pub same_count : (rs : List Row) (ls : List ℕ) → are_letters_of rs ls ≡ true → length rs ≡ length ls
unfolding are_letters_of
same_count [] [] h = refl
same_count [] (l ∷ ls) h = cc
same_count (r ∷ rs) [] h = cc
same_count (r ∷ rs) (l ∷ ls) h = let t = both (is_letter_of r l) (are_letters_of rs ls) h in ap suc (same_count rs ls t.1)

-- the letter of a row
pub letter_at : (i : ℕ) (rs : List Row) (ls : List ℕ) (d : Row) (e : ℕ) → are_letters_of rs ls ≡ true → i < length ls → is_letter_of (get_or rs i d) (get_or ls i e) ≡ true
unfolding are_letters_of
letter_at i [] [] d e h n = absurd (omega (arith, n))
letter_at i [] (l ∷ ls) d e h n = cc
letter_at i (r ∷ rs) [] d e h n = cc
letter_at zero (r ∷ rs) (l ∷ ls) d e h n = let t = both (is_letter_of r l) (are_letters_of rs ls) h in t.0
letter_at (suc i) (r ∷ rs) (l ∷ ls) d e h n = let t = both (is_letter_of r l) (are_letters_of rs ls) h in letter_at i rs ls d e t.1 (omega (arith, n))

neither : (a b : Bool) → a ≡ false → b ≡ false → (a || b) ≡ false
neither a b h g = cc

-- a row that hasn't a word
no_word_of : (r : Row) (l b : ℕ) (bs : List ℕ) → is_letter_of r l ≡ true → l ≢ b → has_word (b ∷ bs) r ≡ false
no_word_of r l b bs h n =
    let t = both (begins_with (word_of r.name (width_of r.size false)) l) (begins_with (word_of r.name (width_of r.size true)) l) h in
    neither (is_word (word_of r.name (width_of r.size false)) (b ∷ bs)) (is_word (word_of r.name (width_of r.size true)) (b ∷ bs))
    (another_word (word_of r.name (width_of r.size false)) l b bs t.0 n) (another_word (word_of r.name (width_of r.size true)) l b bs t.1 n)

behind : (i : ℕ) (rs : List Row) (d : Row) → i < length rs → drop i rs ≡ get_or rs i d ∷ drop (i + 1) rs
behind i [] d h = absurd (omega (arith, h))
behind zero (r ∷ rs) d h = refl
behind (suc i) (r ∷ rs) d h = let q : suc i + 1 ≡ suc (i + 1) = omega arith in rw q (behind i rs d (omega (arith, h)))

-- the row at a place hasn't the word, or has it
row_decides : (w : List ℕ) (i : ℕ) (rs : List Row) (d : Row) (b : Bool) → i < length rs → has_word w (get_or rs i d) ≡ b → list_any (has_word w) (drop i rs) ≡ (b || list_any (has_word w) (drop (i + 1) rs))
row_decides w i rs d b h e = ap (λ xs. list_any (has_word w) xs) (behind i rs d h) ∙ ap (λ c. c || list_any (has_word w) (drop (i + 1) rs)) e

-- a row whose word begins with another letter is passed over
pub passed_over : (w : List ℕ) (i : ℕ) (rs : List Row) (ls : List ℕ) (d : Row) (e f : ℕ) → are_letters_of rs ls ≡ true → i < length ls → 1 ≤ length w → get_or ls i e ≢ get_or w 0 f →
    list_any (has_word w) (drop (i + 1) rs) ≡ list_any (has_word w) (drop i rs)
passed_over [] i rs ls d e f h n m g = absurd (omega (arith, m))
passed_over (b ∷ bs) i rs ls d e f h n m g =
    let k : i < length rs = omega (arith, same_count rs ls h) in
    sym (row_decides (b ∷ bs) i rs d false k (no_word_of (get_or rs i d) (get_or ls i e) b bs (letter_at i rs ls d e h n) g))

-- so is one that hasn't the word
pub goes_on : (w : List ℕ) (i : ℕ) (rs : List Row) (ls : List ℕ) (d : Row) → are_letters_of rs ls ≡ true → i < length ls → has_word w (get_or rs i d) ≡ false →
    list_any (has_word w) (drop (i + 1) rs) ≡ list_any (has_word w) (drop i rs)
goes_on w i rs ls d h n e = let k : i < length rs = omega (arith, same_count rs ls h) in sym (row_decides w i rs d false k e)

-- a row that has the word
pub is_found : (w : List ℕ) (i : ℕ) (rs : List Row) (ls : List ℕ) (d : Row) → are_letters_of rs ls ≡ true → i < length ls → has_word w (get_or rs i d) ≡ true →
    true ≡ list_any (has_word w) (drop i rs)
is_found w i rs ls d h n e = let k : i < length rs = omega (arith, same_count rs ls h) in sym (row_decides w i rs d true k e)

none_left : {A : Type 0} (i : ℕ) (xs : List A) → length xs ≤ i → drop i xs ≡ []
none_left zero [] h = refl
none_left (suc i) [] h = refl
none_left zero (x ∷ xs) h = absurd (omega (arith, h))
none_left (suc i) (x ∷ xs) h = none_left i xs (omega (arith, h))

-- the end
pub none_found : (w : List ℕ) (i : ℕ) (rs : List Row) (ls : List ℕ) → are_letters_of rs ls ≡ true → length ls ≤ i → false ≡ list_any (has_word w) (drop i rs)
none_found w i rs ls h n = let k : length rs ≤ i = omega (arith, same_count rs ls h) in ap (λ xs. list_any (has_word w) xs) (sym (none_left i rs k))

-- no row has the empty word
pub nothing_found : (w : List ℕ) (rs : List Row) (ls : List ℕ) → are_letters_of rs ls ≡ true → length w < 1 → false ≡ list_any (has_word w) rs
unfolding are_letters_of
nothing_found (b ∷ bs) rs ls h n = absurd (omega (arith, n))
nothing_found [] [] ls h n = refl
nothing_found [] (r ∷ rs) [] h n = cc
nothing_found [] (r ∷ rs) (l ∷ ls) h n =
    let t = both (is_letter_of r l) (are_letters_of rs ls) h in
    let s = both (begins_with (word_of r.name (width_of r.size false)) l) (begins_with (word_of r.name (width_of r.size true)) l) t.0 in
    nothing_found [] rs ls t.1 n ∙ ap (λ c. c || list_any (has_word []) rs) (sym (neither (is_word (word_of r.name (width_of r.size false)) []) (is_word (word_of r.name (width_of r.size true)) [])
    (no_empty_word (word_of r.name (width_of r.size false)) l s.0) (no_empty_word (word_of r.name (width_of r.size true)) l s.1)))

pub ruleset among = (same_count, passed_over, goes_on, is_found, none_found, nothing_found)
