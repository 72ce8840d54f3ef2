-- The first row that is chosen: rows are passed over where their words begin with another letter.
use Rattle.std.proofs.Common.{◌≡◌, ◌≢◌, ℕ, zero, suc, ◌+◌, ◌<◌, ◌≤◌, Bool, true, false, ◌&&◌, ◌||◌, not, List, [], ◌∷◌, length, drop, get_or, refl, sym, ◌∙◌, ap, arith}
use Rattle.std.specs.Prelude.{Option, None, Some}
use Rattle.m386_opmap.specs.declared.row.Row.{Row}
use Rattle.m386_opmap.specs.Operands.{width_of}
use Rattle.m386_encode.specs.Wide.{is_full}
use Rattle.m386_words.specs.Mnemonics.{are_letters_of, begins_with, is_letter_of, is_word, word_of}
use Rattle.m386_words.specs.Operands.{Written}
use Rattle.m386_words.specs.Options.{option_else}
use Rattle.m386_words.proofs.Begun.{another_word, letter_at, no_empty_word, same_count}
use Rattle.m386_lines.specs.declared.instruction.Prefixing.{Prefixing}
use Rattle.m386_lines.specs.Instructions.{Instruction, by_choice, by_row, first_choice, in_either_width, may_be_narrow}

both : (a b : Bool) → (a && b) ≡ true → (a ≡ true) × (b ≡ true)
both true true h = (refl, refl)
both true false h = cc
both false b h = cc

by_test : (b : Bool) (o : Option Instruction) → b ≡ false → ◌≡◌ {A = Option Instruction} (elim b [ true ↦ o | false ↦ None ]) None
by_test true o h = cc
by_test false o h = refl

last_fails : (a b c : Bool) → c ≡ false → (a && b && c) ≡ false
last_fails true true c h = h
last_fails true false c h = refl
last_fails false b c h = refl

-- a row that hasn't the word isn't chosen
no_choice : (p : Prefixing) (w : List ℕ) (os : List Written) (r : Row) (narrow : Bool) → is_word (word_of r.name (width_of r.size narrow)) w ≡ false → by_choice p w os r narrow ≡ None
no_choice p w os r narrow h =
    by_test (is_full r && (not narrow || may_be_narrow r) && is_word (word_of r.name (width_of r.size narrow)) w) (by_row p os r (width_of r.size narrow))
    (last_fails (is_full r) (not narrow || may_be_narrow r) (is_word (word_of r.name (width_of r.size narrow)) w) h)

neither : (a b : Option Instruction) → a ≡ None → b ≡ None → option_else a b ≡ None
neither a b h g = cc

in_no_width : (p : Prefixing) (w : List ℕ) (os : List Written) (r : Row) → is_word (word_of r.name (width_of r.size false)) w ≡ false → is_word (word_of r.name (width_of r.size true)) w ≡ false → in_either_width p w os r ≡ None
in_no_width p w os r h g = neither (by_choice p w os r false) (by_choice p w os r true) (no_choice p w os r false h) (no_choice p w os r true g)

-- nor is one whose word begins with another letter
no_letter : (p : Prefixing) (b : ℕ) (bs : List ℕ) (os : List Written) (r : Row) (l : ℕ) → is_letter_of r l ≡ true → l ≢ b → in_either_width p (b ∷ bs) os r ≡ None
no_letter p b bs os r l h n =
    let t = both (begins_with (word_of r.name (width_of r.size false)) l) (begins_with (word_of r.name (width_of r.size true)) l) h in
    in_no_width p (b ∷ bs) os r (another_word (word_of r.name (width_of r.size false)) l b bs t.0 n) (another_word (word_of r.name (width_of r.size true)) l b bs t.1 n)

behind : (i : ℕ) (rs : List Row) (d : Row) → i < length rs → drop i rs ≡ get_or rs i d ∷ drop (i + 1) rs
behind i [] d h = absurd (omega (arith, h))
behind zero (r ∷ rs) d h = refl
behind (suc i) (r ∷ rs) d h = let q : suc i + 1 ≡ suc (i + 1) = omega arith in rw q (behind i rs d (omega (arith, h)))

-- what is chosen from a row on
row_chooses : (p : Prefixing) (w : List ℕ) (os : List Written) (i : ℕ) (rs : List Row) (d : Row) (o : Option Instruction) → i < length rs → in_either_width p w os (get_or rs i d) ≡ o →
    first_choice p w os (drop i rs) ≡ option_else o (first_choice p w os (drop (i + 1) rs))
unfolding first_choice
row_chooses p w os i rs d o h e = ap (λ xs. first_choice p w os xs) (behind i rs d h) ∙ ap (λ c. option_else c (first_choice p w os (drop (i + 1) rs))) e

-- a row whose word begins with another letter is passed over
pub passed_over : (p : Prefixing) (w : List ℕ) (os : List Written) (i : ℕ) (rs : List Row) (ls : List ℕ) (d : Row) (e f : ℕ) → are_letters_of rs ls ≡ true → i < length ls → 1 ≤ length w → get_or ls i e ≢ get_or w 0 f →
    first_choice p w os (drop (i + 1) rs) ≡ first_choice p w os (drop i rs)
passed_over p [] os i rs ls d e f h n m g = absurd (omega (arith, m))
passed_over p (b ∷ bs) os i rs ls d e f h n m g =
    let k : i < length rs = omega (arith, same_count rs ls h) in
    sym (row_chooses p (b ∷ bs) os i rs d None k (no_letter p b bs os (get_or rs i d) (get_or ls i e) (letter_at i rs ls d e h n) g))

-- so is one that doesn't take the operands
pub goes_on : (p : Prefixing) (w : List ℕ) (os : List Written) (i : ℕ) (rs : List Row) (ls : List ℕ) (d : Row) → are_letters_of rs ls ≡ true → i < length ls → None ≡ in_either_width p w os (get_or rs i d) →
    first_choice p w os (drop (i + 1) rs) ≡ first_choice p w os (drop i rs)
goes_on p w os i rs ls d h n e = let k : i < length rs = omega (arith, same_count rs ls h) in sym (row_chooses p w os i rs d None k (sym e))

-- one that takes them
pub is_chosen : (p : Prefixing) (w : List ℕ) (os : List Written) (i : ℕ) (rs : List Row) (ls : List ℕ) (d : Row) (x : Instruction) → are_letters_of rs ls ≡ true → i < length ls → Some x ≡ in_either_width p w os (get_or rs i d) →
    Some x ≡ first_choice p w os (drop i rs)
is_chosen p w os i rs ls d x h n e = let k : i < length rs = omega (arith, same_count rs ls h) in sym (row_chooses p w os i rs d (Some x) k (sym e))

none_left : (i : ℕ) (rs : List Row) → length rs ≤ i → drop i rs ≡ []
none_left zero [] h = refl
none_left (suc i) [] h = refl
none_left zero (r ∷ rs) h = absurd (omega (arith, h))
none_left (suc i) (r ∷ rs) h = none_left i rs (omega (arith, h))

-- the end
pub none_chosen : (p : Prefixing) (w : List ℕ) (os : List Written) (i : ℕ) (rs : List Row) (ls : List ℕ) → are_letters_of rs ls ≡ true → length ls ≤ i → None ≡ first_choice p w os (drop i rs)
unfolding first_choice
none_chosen p w os i rs ls h n = let k : length rs ≤ i = omega (arith, same_count rs ls h) in ap (λ xs. first_choice p w os xs) (sym (none_left i rs k))

-- no row has the empty word
pub nothing_chosen : (p : Prefixing) (w : List ℕ) (os : List Written) (rs : List Row) (ls : List ℕ) → are_letters_of rs ls ≡ true → length w < 1 → None ≡ first_choice p w os rs
unfolding first_choice are_letters_of
nothing_chosen p (b ∷ bs) os rs ls h n = absurd (omega (arith, n))
nothing_chosen p [] os [] ls h n = refl
nothing_chosen p [] os (r ∷ rs) [] h n = cc
nothing_chosen p [] os (r ∷ rs) (l ∷ ls) h n =
    let t = both (is_letter_of r l) (are_letters_of rs ls) h in
    let s = both (begins_with (word_of r.name (width_of r.size false)) l) (begins_with (word_of r.name (width_of r.size true)) l) t.0 in
    nothing_chosen p [] os rs ls t.1 n ∙ ap (λ c. option_else c (first_choice p [] os rs)) (sym (in_no_width p [] os r (no_empty_word (word_of r.name (width_of r.size false)) l s.0) (no_empty_word (word_of r.name (width_of r.size true)) l s.1)))

pub ruleset choices = (same_count, passed_over, goes_on, is_chosen, none_chosen, nothing_chosen)
