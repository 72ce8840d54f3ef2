-- What a line means: a directive or an instruction, perhaps behind a name.
use Rattle.std.specs.Prelude.{ℕ, Bool, true, false, ◌||◌, List, [], ◌∷◌, map, Option, Some, None, if◌then◌else◌, codes, ℤ}
use Rattle.std.specs.Option.{option_map}
use Rattle.m386_opmap.specs.declared.op.Rep.TheVariants.{Once, Equal, NotEqual}
use Rattle.m386_words.specs.Text.{Token, Word, Colon, Equals, solid, tokens_of, listed}
use Rattle.m386_words.specs.Words.{same_word, is_name, begins_with_dot}
use Rattle.m386_words.specs.Options.{option_then, all_some}
use Rattle.m386_words.specs.Expressions.{signed}
use Rattle.m386_words.specs.Operands.{operand}
use Rattle.m386_words.specs.Mnemonics.{is_mnemonic}
use Rattle.m386_lines.specs.declared.instruction.Prefixing.{Prefixing}
use Rattle.m386_lines.specs.Instructions.{Instruction, instruction_of}
use Rattle.m386_lines.specs.Directives.{Directive, directives, form_among}

-- ---- the shape of a line

-- what the first words of a line say that it is
pub data Shape : Type 0 where
  Empty : Shape
  Assigns : List ℕ → List Token → Shape
  Directs : List ℕ → Shape
  Operates : Prefixing → List ℕ → List Token → Shape
  Other : Shape

-- what a word says before a mnemonic
abbrev pub prefix_word : Prefixing → List ℕ → Option Prefixing
prefix_word p w =
    if same_word w (codes "lock") then Some (record { lock = true; rep = p.rep })
    else if same_word w (codes "rep") || same_word w (codes "repz") then Some (record { lock = p.lock; rep = Equal })
    else if same_word w (codes "repnz") then Some (record { lock = p.lock; rep = NotEqual }) else None

-- the word that a token is
abbrev pub word_in : Token → Option (List ℕ)
word_in (Word w) = Some w
word_in _ = None

unfoldable pub instruction_shape : Prefixing → List Token → Shape
instruction_shape p (Word w ∷ ts) = elim (prefix_word p w) [ Some q ↦ instruction_shape q ts | None ↦ (if is_mnemonic w then Operates p w ts else Other) ]
instruction_shape p _ = Other

abbrev pub no_prefix : Prefixing
no_prefix = record { lock = false; rep = Once }

abbrev pub statement_shape : List Token → Shape
statement_shape [] = Empty
statement_shape (Word w ∷ ts) = elim (begins_with_dot w) [ true ↦ Directs w | false ↦ instruction_shape no_prefix (Word w ∷ ts) ]
statement_shape _ = Other

-- the name before `:` at the front of a line, and what stands behind it
abbrev pub label_of : List Token → Option (List ℕ)
label_of (Word w ∷ Colon ∷ ts) = if is_name w then Some w else None
label_of _ = None

abbrev pub behind_label : List Token → List Token
behind_label (Word w ∷ Colon ∷ ts) = if is_name w then ts else Word w ∷ Colon ∷ ts
behind_label ts = ts

-- the name before `=` at the front of a line, and what stands behind it
abbrev pub assigned : List Token → Option (List ℕ × List Token)
assigned (Word w ∷ Equals ∷ ts) = if is_name w then Some (w, ts) else None
assigned _ = None

-- A line is `name = number`, or an optional `name:` and a directive, an instruction or nothing.
-- Own choice: docs/DECISIONS.md, "The assembler's text"
unfoldable pub shape_of : List Token → Shape
shape_of ts = elim (assigned ts) [ Some a ↦ Assigns a.0 a.1 | None ↦ statement_shape (behind_label ts) ]

-- what stands behind the directive, with its blanks: no word before it begins with a dot
abbrev pub is_dotted : Token → Bool
is_dotted (Word w) = begins_with_dot w
is_dotted _ = false

unfoldable pub behind_dot : List Token → List Token
behind_dot [] = []
behind_dot (t ∷ ts) = if is_dotted t then ts else behind_dot ts

-- ---- the meaning

pub data Statement : Type 0 where
  Nothing : Statement
  Assign : List ℕ → ℤ → Statement
  Direct : Directive → Statement
  Operate : Instruction → Statement

pub record Meaning : Type 0 where
  pub label : Option (List ℕ)
  pub statement : Statement

abbrev pub directive_of : List ℕ → List Token → Option Directive
directive_of w ts = option_then (form_among directives w) (λ f. f (behind_dot ts))

-- the instruction of a mnemonic, and the operands behind it between commas
abbrev pub operation_of : Prefixing → List ℕ → List Token → Option Instruction
operation_of p w ts = option_then (all_some (map operand (listed ts))) (λ os. instruction_of p w os)

abbrev pub statement_of : List Token → Shape → Option Statement
statement_of ts Empty = Some Nothing
statement_of ts (Assigns w us) = option_map (Assign w) (signed us)
statement_of ts (Directs w) = option_map Direct (directive_of w ts)
statement_of ts (Operates p w us) = option_map Operate (operation_of p w us)
statement_of ts Other = None

-- What a line means, if it means anything.
-- Own choice: docs/DECISIONS.md, "The assembler's text"
unfoldable pub statement_in : List ℕ → Option Statement
statement_in line = let ts = tokens_of line in statement_of ts (shape_of (solid ts))
