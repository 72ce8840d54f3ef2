-- What operands mean.
use Rattle.std.specs.Prelude.{ℕ, ◌==◌, Bool, true, false, List, [], ◌∷◌, Option, Some, None, if◌then◌else◌, pos}
use Rattle.std.specs.Option.{option_map}
use Rattle.m386_base.specs.declared.number.Width.{Width}
use Rattle.m386_base.specs.declared.number.Width.TheVariants.{W8, W16, W32}
use Rattle.m386_words.specs.Text.{Token, Word, Colon, Open, Close, Plus, Minus, Star, is_colon, parts_by}
use Rattle.m386_words.specs.Words.{is_control, number_of, register_of, segment_of, size_word}
use Rattle.m386_words.specs.declared.name.SizeWord.{SizeWord}
use Rattle.m386_words.specs.Options.{option_then, option_else}
use Rattle.m386_words.specs.Expressions.{Expression, only, term, expression}

-- the parts of an address
pub record Place : Type 0 where
  pub seg : Option ℕ
  pub base : Option ℕ
  pub index : Option ℕ
  pub scale : ℕ
  pub offset : Expression

-- An operand as it is written. Before memory may stand a word.
pub data Written : Type 0 where
  General : Width → ℕ → Written
  Segment : ℕ → Written
  Control : Written
  Number : Expression → Written
  Pointer : Expression → Expression → Written
  Memory : Option SizeWord → Place → Written

-- ---- one word

abbrev pub general : Width → List ℕ → Option Written
general v w = option_map (General v) (register_of v w)

-- the general or segment register that a word is
abbrev pub single : List ℕ → Option Written
single w = option_else (general W8 w) (option_else (general W16 w) (option_else (general W32 w) (option_map Segment (segment_of w))))

-- CR0, another register, or a number or name
abbrev pub word_operand : List ℕ → Option Written
word_operand w = if is_control w then Some Control else option_else (single w) (option_map Number (term w))

-- ---- memory

abbrev pub place_with : Option ℕ → Option ℕ → ℕ → Expression → Place
place_with base index scale e = record { seg = None; base = base; index = index; scale = scale; offset = e }

-- an address that is an expression alone
abbrev pub alone : List Token → Option Place
alone ts = option_map (place_with None None 1) (expression ts)

-- what stands behind base and index: nothing, an expression behind `+`, or one that begins with `-`
abbrev pub added : List Token → Option Expression
added [] = Some (only (pos 0))
added (Plus ∷ ts) = expression ts
added (Minus ∷ ts) = expression (Minus ∷ ts)
added _ = None

-- A register that may be an index: any of 32 bits but ESP.
-- Source: Intel 80386 PRM 17.2.1, table 17-4
abbrev pub index_of : List ℕ → Option ℕ
index_of w = option_then (register_of W32 w) (λ r. if r == 4 then None else Some r)

-- what an index may be multiplied by
abbrev pub scale_of : List ℕ → Option ℕ
scale_of w = option_then (number_of w) (λ n. if n == 1 then Some 1 else if n == 2 then Some 2 else if n == 4 then Some 4 else if n == 8 then Some 8 else None)

-- an index, by what stands behind its `*`: the scale, and perhaps more
abbrev pub scaled : Option ℕ → List ℕ → List Token → Option Place
scaled base i (Word s ∷ ts) = option_then (index_of i) (λ i. option_then (scale_of s) (λ s. option_map (place_with base (Some i) s) (added ts)))
scaled base i _ = None

-- what stands behind a base and `+`: an index, or an expression
abbrev pub behind_plus : ℕ → List Token → Option Place
behind_plus b (Word i ∷ Star ∷ ts) = scaled (Some b) i ts
behind_plus b ts = option_map (place_with (Some b) None 1) (expression ts)

-- what stands behind a base
abbrev pub behind_base : ℕ → List Token → Option Place
behind_base b (Plus ∷ ts) = behind_plus b ts
behind_base b ts = option_map (place_with (Some b) None 1) (added ts)

-- what begins with a word: an index, if `*` follows, a base, or an expression
abbrev pub worded : List ℕ → List Token → Option Place
worded w (Star ∷ ts) = scaled None w ts
worded w ts = elim (register_of W32 w) [ Some b ↦ behind_base b ts | None ↦ alone (Word w ∷ ts) ]

-- base, index with its scale, and expression, each optional
abbrev pub parts_of_place : List Token → Option Place
parts_of_place [] = Some (place_with None None 1 (only (pos 0)))
parts_of_place (Word w ∷ ts) = worded w ts
parts_of_place ts = alone ts

abbrev pub with_segment : ℕ → Place → Place
with_segment s p = record { seg = Some s; base = p.base; index = p.index; scale = p.scale; offset = p.offset }

-- What stands between `[` and `]`.
-- Own choice: docs/DECISIONS.md, "The assembler's text"
unfoldable pub place : List Token → Option Place
place (Word s ∷ Colon ∷ ts) = option_then (segment_of s) (λ s. option_map (with_segment s) (parts_of_place ts))
place ts = parts_of_place ts

abbrev pub is_close : Token → Bool
is_close Close = true
is_close _ = false

-- what stands before the last token, which is `]`
unfoldable pub inside : List Token → Option (List Token)
inside [] = None
inside (t ∷ []) = if is_close t then Some [] else None
inside (t ∷ u ∷ ts) = option_map (λ us. t ∷ us) (inside (u ∷ ts))

-- what stands behind `[`, with the word before it
abbrev pub memory : Option SizeWord → List Token → Option Written
memory size ts = option_then (inside ts) (λ us. option_map (Memory size) (place us))

-- ---- operands

-- an expression, or two between which a colon stands
abbrev pub pointed : List (List Token) → Option Written
pointed (e ∷ []) = option_map Number (expression e)
pointed (s ∷ o ∷ []) = option_then (expression s) (λ s. option_map (Pointer s) (expression o))
pointed _ = None

-- An operand.
-- Own choice: docs/DECISIONS.md, "The assembler's text"
unfoldable pub operand : List Token → Option Written
operand (Word w ∷ []) = word_operand w
operand (Open ∷ ts) = memory None ts
operand (Word w ∷ Open ∷ ts) = option_then (size_word w) (λ size. memory (Some size) ts)
operand ts = pointed (parts_by is_colon ts)
