-- The shape of an instruction, word by word.
use Rattle.std.proofs.Common.{◌≡◌, ℕ, zero, suc, ◌+◌, ◌<◌, ◌≤◌, List, [], ◌∷◌, length, drop, get_or, map, refl, sym, ◌∙◌, ap, arith}
use Rattle.std.specs.Prelude.{Option, None, Some, if◌then◌else◌}
use Rattle.m386_words.specs.declared.token.Token.{Token as SeenToken}
use Rattle.m386_words.specs.Text.{Token, Word, Comma, Colon, Open, Close, Plus, Minus, Star, Equals, Blank, Strange}
use Rattle.m386_words.specs.Tokens.{seen}
use Rattle.m386_words.specs.Mnemonics.{is_mnemonic}
use Rattle.m386_lines.specs.declared.instruction.Prefixing.{Prefixing}
use Rattle.m386_lines.specs.Lines.{Shape, Other, Operates, instruction_shape, prefix_word, word_in}

-- the shape by the tokens that are left
abbrev pub left_shape : Prefixing → ℕ → List SeenToken → Shape
left_shape p i ts = instruction_shape p (map seen (drop i ts))

-- the list of what is left, by its first
parts : (i : ℕ) (ts : List SeenToken) (d : SeenToken) → i < length ts → drop i ts ≡ get_or ts i d ∷ drop (i + 1) ts
parts i [] d h = absurd (omega (arith, h))
parts zero (t ∷ ts) d h = refl
parts (suc i) (t ∷ ts) d h = let q : suc i + 1 ≡ suc (i + 1) = omega arith in rw q (parts i ts d (omega (arith, h)))

-- the shape by what a word says before a mnemonic
abbrev shape_by : Option Prefixing → Prefixing → List ℕ → List Token → Shape
shape_by None p w ts = if is_mnemonic w then Operates p w ts else Other
shape_by (Some q) p w ts = instruction_shape q ts

by_word : (p : Prefixing) (w : List ℕ) (ts : List Token) (o : Option Prefixing) → shape_by o p w ts ≡ elim o [ Some q ↦ instruction_shape q ts | None ↦ (if is_mnemonic w then Operates p w ts else Other) ]
by_word p w ts None = refl
by_word p w ts (Some q) = refl

by_first : (p : Prefixing) (w : List ℕ) (ts : List Token) (o : Option Prefixing) → prefix_word p w ≡ o → instruction_shape p (Word w ∷ ts) ≡ shape_by o p w ts
unfolding instruction_shape
by_first p w ts o h = sym (by_word p w ts (prefix_word p w)) ∙ ap (λ x. shape_by x p w ts) h

word_is : (t : Token) (w : List ℕ) → word_in t ≡ Some w → t ≡ Word w
word_is (Word v) w h = ap Word (same v w h)
  where
    same : (v w : List ℕ) → Some v ≡ Some w → v ≡ w
    same v w h = cc
word_is Comma w h = cc
word_is Colon w h = cc
word_is Open w h = cc
word_is Close w h = cc
word_is Plus w h = cc
word_is Minus w h = cc
word_is Star w h = cc
word_is Equals w h = cc
word_is Blank w h = cc
word_is Strange w h = cc

no_word : (p : Prefixing) (t : Token) (ts : List Token) → word_in t ≡ None → instruction_shape p (t ∷ ts) ≡ Other
unfolding instruction_shape
no_word p (Word v) ts h = cc
no_word p Comma ts h = refl
no_word p Colon ts h = refl
no_word p Open ts h = refl
no_word p Close ts h = refl
no_word p Plus ts h = refl
no_word p Minus ts h = refl
no_word p Star ts h = refl
no_word p Equals ts h = refl
no_word p Blank ts h = refl
no_word p Strange ts h = refl

first_of : (p : Prefixing) (i : ℕ) (ts : List SeenToken) (d : SeenToken) (w : List ℕ) (o : Option Prefixing) → i < length ts → word_in (seen (get_or ts i d)) ≡ Some w → prefix_word p w ≡ o →
    left_shape p i ts ≡ shape_by o p w (map seen (drop (i + 1) ts))
first_of p i ts d w o h e f =
    ap (λ us. instruction_shape p (map seen us)) (parts i ts d h)
    ∙ ap (λ t. instruction_shape p (t ∷ map seen (drop (i + 1) ts))) (word_is (seen (get_or ts i d)) w e)
    ∙ by_first p w (map seen (drop (i + 1) ts)) o f

-- a word that stands before a mnemonic
pub passes : (p q : Prefixing) (i : ℕ) (ts : List SeenToken) (d : SeenToken) (w : List ℕ) → i < length ts → word_in (seen (get_or ts i d)) ≡ Some w → prefix_word p w ≡ Some q → left_shape q (i + 1) ts ≡ left_shape p i ts
passes p q i ts d w h e f = sym (first_of p i ts d w (Some q) h e f)

-- a mnemonic, or another word
pub stands : (p : Prefixing) (i : ℕ) (ts : List SeenToken) (d : SeenToken) (w : List ℕ) → i < length ts → word_in (seen (get_or ts i d)) ≡ Some w → prefix_word p w ≡ None →
    left_shape p i ts ≡ (if is_mnemonic w then Operates p w (map seen (drop (i + 1) ts)) else Other)
stands p i ts d w h e f = first_of p i ts d w None h e f

-- no word
pub no_more : (p : Prefixing) (i : ℕ) (ts : List SeenToken) (d : SeenToken) → i < length ts → word_in (seen (get_or ts i d)) ≡ None → left_shape p i ts ≡ Other
no_more p i ts d h e = ap (λ us. instruction_shape p (map seen us)) (parts i ts d h) ∙ no_word p (seen (get_or ts i d)) (map seen (drop (i + 1) ts)) e

-- the end
pub nothing_left : (p : Prefixing) (i : ℕ) (ts : List SeenToken) → length ts ≤ i → left_shape p i ts ≡ Other
unfolding instruction_shape
nothing_left p zero [] h = refl
nothing_left p (suc i) [] h = refl
nothing_left p zero (t ∷ ts) h = absurd (omega (arith, h))
nothing_left p (suc i) (t ∷ ts) h = nothing_left p i ts (omega (arith, h))

pub ruleset shaped = (passes, stands, no_more, nothing_left)
