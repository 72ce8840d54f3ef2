-- What the code's expressions, operands and parts of tokens are.
use Rattle.std.specs.Prelude.{ℕ, Bool, List, [], map, Option, Some, None, ℤ, pos, negsuc, ◌≤ℤ◌}
use Rattle.std.specs.Borrow.{Bor}
use Rattle.m386_words.specs.declared.expression.Expression.{Expression as Seen}
use Rattle.m386_words.specs.declared.operand.Place.{Place as SeenPlace}
use Rattle.m386_words.specs.declared.operand.Written.{Written as SeenWritten}
use Rattle.m386_words.specs.declared.operand.Written.TheVariants as writtens
use Rattle.m386_words.specs.declared.part.Separator.{Separator}
use Rattle.m386_words.specs.declared.part.Separator.TheVariants as separators
use Rattle.m386_words.specs.declared.token.Token.{Token as SeenToken}
use Rattle.m386_words.specs.Text.{Token, is_comma, is_colon, is_blank, parts_by}
use Rattle.m386_words.specs.Tokens.{seen}
use Rattle.m386_words.specs.Expressions.{Expression}
use Rattle.m386_words.specs.Operands.{Place, Written, General, Segment, Control, Number, Pointer, Memory}

-- the bytes of a word, if there is one
abbrev pub word_seen : Option (Bor (List ℕ)) → Option (List ℕ)
word_seen None = None
word_seen (Some w) = Some w.now

abbrev pub expression_seen : Seen → Expression
expression_seen e = record { name = word_seen e.name; number = e.number }

-- a number of 32 bits with its sign
pub record IsSmall (n : ℤ) : Type 0 where
  pub low : negsuc 4294967294 ≤ℤ n
  pub high : n ≤ℤ pos 4294967295

-- at most the sum of two of these
pub record IsSum (n : ℤ) : Type 0 where
  pub low : negsuc 8589934589 ≤ℤ n
  pub high : n ≤ℤ pos 8589934590

-- the test of a separator
abbrev pub separates : Separator → Token → Bool
separates separators.Comma t = is_comma t
separates separators.Colon t = is_colon t
separates separators.Blank t = is_blank t

-- the parts of what stands behind a separator, if there is one
abbrev pub rest_parts : Separator → Option (Bor (List SeenToken)) → List (List Token)
rest_parts s None = []
rest_parts s (Some ts) = parts_by (separates s) (map seen ts.now)

abbrev pub place_seen : SeenPlace → Place
place_seen p = record { seg = p.seg; base = p.base; index = p.index; scale = p.scale; offset = expression_seen p.offset }

abbrev pub written_seen : SeenWritten → Written
written_seen (writtens.General w r) = General w r
written_seen (writtens.Segment s) = Segment s
written_seen writtens.Control = Control
written_seen (writtens.Number e) = Number (expression_seen e)
written_seen (writtens.Pointer s o) = Pointer (expression_seen s) (expression_seen o)
written_seen (writtens.Memory size p) = Memory size (place_seen p)

-- the tokens of a part, if there is one
abbrev pub tokens_seen : Option (Bor (List SeenToken)) → Option (List Token)
tokens_seen None = None
tokens_seen (Some ts) = Some (map seen ts.now)
