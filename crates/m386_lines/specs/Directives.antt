-- What directives mean.
use Rattle.std.specs.Prelude.{ℕ, ◌==◌, Bool, true, ◌&&◌, not, List, [], ◌∷◌, map, Option, Some, None, if◌then◌else◌, codes, ℤ}
use Rattle.std.specs.List.{list_any}
use Rattle.std.specs.Option.{option_map}
use Rattle.m386_words.specs.Text.{Token, Word, Equals, solid, listed, spaced}
use Rattle.m386_words.specs.Words.{same_word, place_among, bytes_of_digits}
use Rattle.m386_words.specs.Options.{option_then, all_some}
use Rattle.m386_words.specs.Expressions.{Expression, expression, signed}

pub data Directive : Type 0 where
  SetsMemory : Expression → Directive
  SetsCpus : Expression → Directive
  SetsGdt : Expression → Expression → Directive
  SetsIdt : Expression → Expression → Directive
  StartsBare : Expression → Expression → Directive
  StartsTask : Expression → Expression → Directive
  Plans : Expression → Expression → Expression → Directive
  Begins : ℤ → Directive
  Values : ℕ → List Expression → Directive
  Bytes : List ℕ → Directive
  Zeros : ℤ → Directive
  Describes : Expression → Expression → Expression → Expression → Directive
  Gates : Expression → Expression → Expression → Expression → Directive
  Fields : List (ℕ × Expression) → Directive

-- so many arguments, each an expression
abbrev pub expressions : List Token → Option (List Expression)
expressions ts = all_some (map expression (spaced ts))

-- the directive of one expression, of two, of three and of four, and of no other number of them
abbrev pub of_one : (Expression → Directive) → List Expression → Option Directive
of_one f (a ∷ []) = Some (f a)
of_one f _ = None

abbrev pub of_two : (Expression → Expression → Directive) → List Expression → Option Directive
of_two f (a ∷ b ∷ []) = Some (f a b)
of_two f _ = None

abbrev pub of_three : (Expression → Expression → Expression → Directive) → List Expression → Option Directive
of_three f (a ∷ b ∷ c ∷ []) = Some (f a b c)
of_three f _ = None

abbrev pub of_four : (Expression → Expression → Expression → Expression → Directive) → List Expression → Option Directive
of_four f (a ∷ b ∷ c ∷ d ∷ []) = Some (f a b c d)
of_four f _ = None

abbrev pub one : (Expression → Directive) → List Token → Option Directive
one f ts = option_then (expressions ts) (of_one f)

abbrev pub two : (Expression → Expression → Directive) → List Token → Option Directive
two f ts = option_then (expressions ts) (of_two f)

abbrev pub three : (Expression → Expression → Expression → Directive) → List Token → Option Directive
three f ts = option_then (expressions ts) (of_three f)

abbrev pub four : (Expression → Expression → Expression → Expression → Directive) → List Token → Option Directive
four f ts = option_then (expressions ts) (of_four f)

-- the number that is the one argument, with an optional `-`
abbrev pub signed_alone : List (List Token) → Option ℤ
signed_alone (a ∷ []) = signed a
signed_alone _ = None

abbrev pub number_alone : (ℤ → Directive) → List Token → Option Directive
number_alone f ts = option_map f (signed_alone (spaced ts))

-- expressions, one at least, as numbers of so many bits
abbrev pub some_values : ℕ → List Expression → Option Directive
some_values bits [] = None
some_values bits (e ∷ es) = Some (Values bits (e ∷ es))

-- expressions between commas, one at least
abbrev pub values : ℕ → List Token → Option Directive
values bits ts = option_then (all_some (map expression (listed (solid ts)))) (some_values bits)

-- the word that is the one argument
abbrev pub word_alone : List (List Token) → Option (List ℕ)
word_alone ((Word w ∷ []) ∷ []) = Some w
word_alone _ = None

abbrev pub digits : List Token → Option Directive
digits ts = option_map Bytes (option_then (word_alone (spaced ts)) bytes_of_digits)

-- the fields of a task state segment, by their numbers
abbrev pub words_field : List (List ℕ)
words_field =
    codes "link" ∷ codes "esp0" ∷ codes "ss0" ∷ codes "esp1" ∷ codes "ss1" ∷ codes "esp2" ∷ codes "ss2" ∷ codes "cr3" ∷ codes "eip"
    ∷ codes "efl" ∷ codes "eax" ∷ codes "ecx" ∷ codes "edx" ∷ codes "ebx" ∷ codes "esp" ∷ codes "ebp" ∷ codes "esi" ∷ codes "edi"
    ∷ codes "es" ∷ codes "cs" ∷ codes "ss" ∷ codes "ds" ∷ codes "fs" ∷ codes "gs" ∷ codes "ldt" ∷ codes "trap" ∷ codes "map" ∷ []

-- `field=expression`
abbrev pub field : List Token → Option (ℕ × Expression)
field (Word w ∷ Equals ∷ ts) = option_then (place_among words_field w) (λ n. option_map (λ e. (n, e)) (expression ts))
field _ = None

-- whether a field of this number stands among these
abbrev pub has_field : ℕ → List (ℕ × Expression) → Bool
has_field n fs = list_any (λ (f : ℕ × Expression). f.0 == n) fs

-- whether no field stands twice
unfoldable pub are_distinct : List (ℕ × Expression) → Bool
are_distinct [] = true
are_distinct (f ∷ fs) = not (has_field f.0 fs) && are_distinct fs

-- fields, none of which stands twice
abbrev pub distinct : List (ℕ × Expression) → Option Directive
distinct fs = if are_distinct fs then Some (Fields fs) else None

abbrev pub fields : List Token → Option Directive
fields ts = option_then (all_some (map field (spaced ts))) distinct

-- A directive's word and what its arguments mean.
-- Own choice: docs/DECISIONS.md, "The assembler's text"
abbrev pub directives : List (List ℕ × (List Token → Option Directive))
directives =
    (codes ".memory", one SetsMemory) ∷ (codes ".cpus", one SetsCpus) ∷ (codes ".gdt", two SetsGdt) ∷ (codes ".idt", two SetsIdt)
    ∷ (codes ".bare", two StartsBare) ∷ (codes ".task", two StartsTask) ∷ (codes ".plan", three Plans) ∷ (codes ".org", number_alone Begins)
    ∷ (codes ".byte", values 8) ∷ (codes ".word", values 16) ∷ (codes ".long", values 32) ∷ (codes ".hex", digits)
    ∷ (codes ".zero", number_alone Zeros) ∷ (codes ".desc", four Describes) ∷ (codes ".gate", four Gates) ∷ (codes ".tss", fields) ∷ []

-- what a word's arguments mean, if it is a directive
unfoldable pub form_among : List (List ℕ × (List Token → Option Directive)) → List ℕ → Option (List Token → Option Directive)
form_among [] w = None
form_among (row ∷ rows) w = if same_word row.0 w then Some row.1 else form_among rows w
