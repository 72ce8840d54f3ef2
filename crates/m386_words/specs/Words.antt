-- What a word is by itself: a number, a name, a register.
use Rattle.std.specs.Prelude.{ℕ, suc, ◌+◌, ◌-◌, ◌*◌, ◌^◌, ◌==◌, nat_le, nat_lt, Bool, false, ◌&&◌, ◌||◌, not, List, [], ◌∷◌, Option, Some, None, is_some, if◌then◌else◌, codes}
use Rattle.std.specs.List.{list_all}
use Rattle.std.specs.Option.{option_map}
use Rattle.std.specs.Str.{bytes_eq}
use Rattle.m386_base.specs.declared.number.Width.{Width}
use Rattle.m386_base.specs.declared.number.Width.TheVariants.{W8, W16, W32}
use Rattle.m386_words.specs.declared.name.SizeWord.{SizeWord}
use Rattle.m386_words.specs.declared.name.SizeWord.TheVariants.{Byte, Word, Double, Far}
use Rattle.m386_words.specs.Text.{is_digit, is_letter}

-- whether two words are the same
abbrev pub same_word : List ℕ → List ℕ → Bool
same_word v w = bytes_eq v w

-- where a word stands among these
unfoldable pub place_among : List (List ℕ) → List ℕ → Option ℕ
place_among [] w = None
place_among (x ∷ xs) w = if same_word x w then Some 0 else after (place_among xs w)
  where
    after : Option ℕ → Option ℕ
    after None = None
    after (Some n) = Some (suc n)

-- ---- numbers

-- the value of a digit, hexadecimal ones in either case, and 16 for any other byte
abbrev pub digit : ℕ → ℕ
digit b = if is_digit b then b - 48 else if nat_le 65 b && nat_le b 70 then b - 55 else if nat_le 97 b && nat_le b 102 then b - 87 else 16

-- the number that digits go on to behind some value, if they are digits of the base
unfoldable pub numeral : ℕ → ℕ → List ℕ → Option ℕ
numeral base value [] = Some value
numeral base value (b ∷ bs) = if nat_lt (digit b) base then numeral base (base * value + digit b) bs else None

-- a number that has a digit at least
abbrev pub some_digits : ℕ → List ℕ → Option ℕ
some_digits base [] = None
some_digits base (b ∷ bs) = numeral base 0 (b ∷ bs)

-- `0`, or decimal digits without a leading zero, or `0x` and hexadecimal digits
abbrev pub written : List ℕ → Option ℕ
written [] = None
written (b ∷ []) = numeral 10 0 (b ∷ [])
written (b ∷ c ∷ bs) = if b == 48 then (if c == 120 then some_digits 16 bs else None) else numeral 10 0 (b ∷ c ∷ bs)

-- what has up to 32 bits
abbrev pub within : Option ℕ → Option ℕ
within None = None
within (Some n) = if nat_lt n (2 ^ 32) then Some n else None

-- The number of a word, if it is one of up to 32 bits.
-- Own choice: docs/DECISIONS.md, "The assembler's text"
unfoldable pub number_of : List ℕ → Option ℕ
number_of w = within (written w)

-- the bytes of hexadecimal digits, two for each
unfoldable pub bytes_of_digits : List ℕ → Option (List ℕ)
bytes_of_digits [] = Some []
bytes_of_digits (a ∷ []) = None
bytes_of_digits (a ∷ b ∷ cs) = if nat_lt (digit a) 16 && nat_lt (digit b) 16 then option_map (λ bs. (16 * digit a + digit b) ∷ bs) (bytes_of_digits cs) else None

abbrev pub begins_with_digit : List ℕ → Bool
begins_with_digit [] = false
begins_with_digit (b ∷ bs) = is_digit b

abbrev pub begins_with_dot : List ℕ → Bool
begins_with_dot [] = false
begins_with_dot (b ∷ bs) = b == 46

-- ---- registers and names

abbrev pub words_32 : List (List ℕ)
words_32 = codes "eax" ∷ codes "ecx" ∷ codes "edx" ∷ codes "ebx" ∷ codes "esp" ∷ codes "ebp" ∷ codes "esi" ∷ codes "edi" ∷ []

abbrev pub words_16 : List (List ℕ)
words_16 = codes "ax" ∷ codes "cx" ∷ codes "dx" ∷ codes "bx" ∷ codes "sp" ∷ codes "bp" ∷ codes "si" ∷ codes "di" ∷ []

abbrev pub words_8 : List (List ℕ)
words_8 = codes "al" ∷ codes "cl" ∷ codes "dl" ∷ codes "bl" ∷ codes "ah" ∷ codes "ch" ∷ codes "dh" ∷ codes "bh" ∷ []

abbrev pub words_segment : List (List ℕ)
words_segment = codes "es" ∷ codes "cs" ∷ codes "ss" ∷ codes "ds" ∷ codes "fs" ∷ codes "gs" ∷ []

-- The number of a general register of a width, and of a segment register.
-- Source: Intel 80386 PRM 17.2.1, table 17-2
abbrev pub register_of : Width → List ℕ → Option ℕ
register_of W8 w = place_among words_8 w
register_of W16 w = place_among words_16 w
register_of W32 w = place_among words_32 w

abbrev pub segment_of : List ℕ → Option ℕ
segment_of w = place_among words_segment w

-- The word that may stand before memory.
-- Own choice: docs/DECISIONS.md, "The assembler's text"
abbrev pub size_word : List ℕ → Option SizeWord
size_word w =
    if same_word w (codes "byte") then Some Byte else if same_word w (codes "word") then Some Word
    else if same_word w (codes "dword") then Some Double else if same_word w (codes "far") then Some Far else None

-- whether a word is CR0
abbrev pub is_control : List ℕ → Bool
is_control w = same_word w (codes "cr0")

-- the words of a name's form that are none
abbrev pub is_reserved : List ℕ → Bool
is_reserved w =
    is_some (register_of W32 w) || is_some (register_of W16 w) || is_some (register_of W8 w) || is_some (segment_of w)
    || is_some (size_word w) || is_control w

abbrev pub is_name_byte : ℕ → Bool
is_name_byte b = is_letter b || b == 95 || is_digit b

-- Whether a word is a name: a letter or `_`, then letters, digits and `_`.
-- Own choice: docs/DECISIONS.md, "The assembler's text"
unfoldable pub is_name : List ℕ → Bool
is_name [] = false
is_name (b ∷ bs) = not (is_digit b) && list_all is_name_byte (b ∷ bs) && not (is_reserved (b ∷ bs))
