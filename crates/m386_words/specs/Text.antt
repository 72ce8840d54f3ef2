-- The lines of a text, and what a line consists of.
use Rattle.std.specs.Prelude.{ℕ, ◌==◌, nat_le, Bool, true, false, ◌&&◌, ◌||◌, List, [], ◌∷◌, if◌then◌else◌}

-- ---- lines

-- a byte at the front of the first line
abbrev pub with_first : ℕ → List (List ℕ) → List (List ℕ)
with_first b [] = (b ∷ []) ∷ []
with_first b (l ∷ ls) = (b ∷ l) ∷ ls

-- The lines of a text: each ends with a line feed, but for bytes behind the last line feed.
-- Own choice: docs/DECISIONS.md, "The assembler's text"
unfoldable pub lines_of : List ℕ → List (List ℕ)
lines_of [] = []
lines_of (b ∷ bs) = if b == 10 then [] ∷ lines_of bs else with_first b (lines_of bs)

-- ---- words and marks

-- What stands in a line before its comment: words, marks, blanks, and bytes that are none of these.
pub data Token : Type 0 where
  Word : List ℕ → Token
  Comma : Token
  Colon : Token
  Open : Token
  Close : Token
  Plus : Token
  Minus : Token
  Star : Token
  Equals : Token
  Blank : Token
  Strange : Token

abbrev pub is_digit : ℕ → Bool
is_digit b = nat_le 48 b && nat_le b 57

abbrev pub is_letter : ℕ → Bool
is_letter b = nat_le 65 b && nat_le b 90 || nat_le 97 b && nat_le b 122

-- letters, digits, `_` and `.`
abbrev pub is_word_byte : ℕ → Bool
is_word_byte b = is_letter b || is_digit b || b == 95 || b == 46

-- what a byte outside words is
abbrev pub mark_of : ℕ → Token
mark_of b =
    if b == 44 then Comma else if b == 58 then Colon else if b == 91 then Open else if b == 93 then Close
    else if b == 43 then Plus else if b == 45 then Minus else if b == 42 then Star else if b == 61 then Equals
    else if b == 32 || b == 9 then Blank else Strange

-- a byte of a word before the tokens that follow: a word is a longest run
abbrev pub with_letter : ℕ → List Token → List Token
with_letter b (Word w ∷ ts) = Word (b ∷ w) ∷ ts
with_letter b ts = Word (b ∷ []) ∷ ts

-- The tokens of a line: all before `;`, which begins a comment.
-- Own choice: docs/DECISIONS.md, "The assembler's text"
unfoldable pub tokens_of : List ℕ → List Token
tokens_of [] = []
tokens_of (b ∷ bs) = if b == 59 then [] else if is_word_byte b then with_letter b (tokens_of bs) else mark_of b ∷ tokens_of bs

-- ---- lists of tokens

abbrev pub is_blank : Token → Bool
is_blank Blank = true
is_blank _ = false

abbrev pub is_comma : Token → Bool
is_comma Comma = true
is_comma _ = false

abbrev pub is_colon : Token → Bool
is_colon Colon = true
is_colon _ = false

-- without blanks
unfoldable pub solid : List Token → List Token
solid [] = []
solid (t ∷ ts) = if is_blank t then solid ts else t ∷ solid ts

-- a token at the front of the first part
abbrev pub with_token : Token → List (List Token) → List (List Token)
with_token t [] = (t ∷ []) ∷ []
with_token t (p ∷ ps) = (t ∷ p) ∷ ps

-- the parts between the tokens that pass a test: one more than there are such tokens
unfoldable pub parts_by : (Token → Bool) → List Token → List (List Token)
parts_by test [] = [] ∷ []
parts_by test (t ∷ ts) = if test t then [] ∷ parts_by test ts else with_token t (parts_by test ts)

abbrev pub is_none : List Token → Bool
is_none [] = true
is_none _ = false

-- the parts that aren't empty
unfoldable pub filled : List (List Token) → List (List Token)
filled [] = []
filled (p ∷ ps) = if is_none p then filled ps else p ∷ filled ps

-- a list between commas: none, or one part more than there are commas
abbrev pub listed : List Token → List (List Token)
listed [] = []
listed ts = parts_by is_comma ts

-- arguments between blanks
abbrev pub spaced : List Token → List (List Token)
spaced ts = filled (parts_by is_blank ts)
