-- What the code's tokens are.
use Rattle.std.specs.Prelude.{ℕ, ◌≡◌, ◌<◌, ◌≤◌, true, false, List, length, slice_index}
use Rattle.m386_words.specs.declared.token.Token.{Token as Seen}
use Rattle.m386_words.specs.declared.token.Token.TheVariants as seens
use Rattle.m386_words.specs.Text.{Token, Word, Comma, Colon, Open, Close, Plus, Minus, Star, Equals, Blank, Strange, is_word_byte}

abbrev pub seen : Seen → Token
seen (seens.Word w) = Word w.now
seen seens.Comma = Comma
seen seens.Colon = Colon
seen seens.Open = Open
seen seens.Close = Close
seen seens.Plus = Plus
seen seens.Minus = Minus
seen seens.Star = Star
seen seens.Equals = Equals
seen seens.Blank = Blank
seen seens.Strange = Strange

-- so many bytes at the front stand in words, and then there is no byte or one that doesn't
pub record IsRun (line : List ℕ) (n : ℕ) : Type 0 where
  pub fits : n ≤ length line
  pub inside : (i : ℕ) → i < n → is_word_byte (slice_index line i) ≡ true
  pub ended : n < length line → is_word_byte (slice_index line n) ≡ false
