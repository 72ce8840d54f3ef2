-- What expressions mean: numbers, and names that are known only later.
use Rattle.std.specs.Prelude.{ℕ, List, [], ◌∷◌, Option, Some, None, if◌then◌else◌, ℤ, pos, ◌+ℤ◌, neg_ℤ}
use Rattle.std.specs.Option.{option_map}
use Rattle.m386_words.specs.Text.{Token, Word, Plus, Minus}
use Rattle.m386_words.specs.Words.{number_of, is_name}
use Rattle.m386_words.specs.Options.{option_then}

-- A number, with the value of a name where it has one.
pub record Expression : Type 0 where
  pub name : Option (List ℕ)
  pub number : ℤ

abbrev pub only : ℤ → Expression
only n = record { name = None; number = n }

-- what a word is in an expression
abbrev pub term : List ℕ → Option Expression
term w = if is_name w then Some (record { name = Some w; number = pos 0 }) else option_map (λ n. only (pos n)) (number_of w)

-- A number with an optional `-`.
-- Own choice: docs/DECISIONS.md, "The assembler's text"
abbrev pub signed : List Token → Option ℤ
signed (Word w ∷ []) = option_map pos (number_of w)
signed (Minus ∷ Word w ∷ []) = option_map (λ n. neg_ℤ (pos n)) (number_of w)
signed _ = None

abbrev pub plus : Expression → ℤ → Expression
plus e n = record { name = e.name; number = e.number +ℤ n }

-- what an expression is with what follows its first part
abbrev pub followed : Expression → List Token → Option Expression
followed e [] = Some e
followed e (Plus ∷ ts) = option_map (plus e) (signed ts)
followed e (Minus ∷ ts) = option_map (λ n. plus e (neg_ℤ n)) (signed ts)
followed e _ = None

-- An expression: a number or a name, and perhaps a number more or less.
-- Own choice: docs/DECISIONS.md, "The assembler's text"
unfoldable pub expression : List Token → Option Expression
expression (Word w ∷ ts) = option_then (term w) (λ e. followed e ts)
expression (Minus ∷ Word w ∷ ts) = option_then (number_of w) (λ n. followed (only (neg_ℤ (pos n))) ts)
expression _ = None
