-- A line of the report: its fields, and numbers as digits.
use Rattle.std.specs.Prelude.{ℕ, ◌+◌, ◌/◌, ◌%◌, List, [], ◌∷◌, ◌++◌, slice_index, codes}
use Rattle.std.specs.Int.{w16, w32, to_be_bytes}
use Rattle.hex.specs.Hex.{encode_lower, lower_digits}

-- fields, each with a space before it
unfoldable pub spaced : List (List ℕ) → List ℕ
spaced [] = []
spaced (field ∷ fields) = codes " " ++ field ++ spaced fields

-- A line: its first field and the others, with one space between two of them, and a line feed.
-- Own choice: docs/DECISIONS.md, "The report"
abbrev pub line_text : List ℕ → List (List ℕ) → List ℕ
line_text first others = first ++ spaced others ++ codes "\n"

-- A number of 32 bits as eight hexadecimal digits, the highest first, in lower case.
-- Own choice: docs/DECISIONS.md, "The report"
unfoldable pub hex8 : ℕ → List ℕ
hex8 n = encode_lower (to_be_bytes w32 n)

-- a number of 16 bits as four hexadecimal digits
unfoldable pub hex4 : ℕ → List ℕ
hex4 n = encode_lower (to_be_bytes w16 n)

-- a number of 8 bits as two hexadecimal digits
unfoldable pub hex2 : ℕ → List ℕ
hex2 n = encode_lower (n ∷ [])

-- a number of 4 bits as one hexadecimal digit
unfoldable pub hex1 : ℕ → List ℕ
hex1 n = slice_index lower_digits n ∷ []

-- a number below 100 as two decimal digits: 48 is the digit 0
unfoldable pub two_digits : ℕ → List ℕ
two_digits n = (48 + n / 10) ∷ (48 + n % 10) ∷ []
