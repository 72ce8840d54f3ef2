-- What can be seen of a line alone: the kinds of faults, and what it means.
use Rattle.std.specs.Prelude.{ℕ, ◌==◌, nat_le, Bool, true, false, ◌&&◌, ◌||◌, not, List, [], ◌∷◌, Option, Some, None, is_none, is_some, Result, Ok, Err, if◌then◌else◌, codes}
use Rattle.std.specs.List.{list_any}
use Rattle.m386_words.specs.Text.{Token, Word, Strange, solid, tokens_of}
use Rattle.m386_words.specs.Words.{same_word, number_of, begins_with_digit}
use Rattle.m386_words.specs.Expressions.{signed}
use Rattle.m386_lines.specs.declared.kind.AsmKind.{AsmKind}
use Rattle.m386_lines.specs.declared.kind.AsmKind.TheVariants as kinds
use Rattle.m386_lines.specs.Directives.{directives, form_among}
use Rattle.m386_lines.specs.Lines.{Shape, Assigns, Directs, Operates, Other, Statement, Nothing, Meaning, shape_of, label_of, directive_of, operation_of, statement_in}

abbrev pub is_strange_byte : ℕ → Bool
is_strange_byte b = not (b == 9 || nat_le 32 b && nat_le b 126)

-- Ascii: a byte is neither a tab nor from 20h to 7Eh, also in a comment.
-- Own choice: docs/DECISIONS.md, "The assembler's faults"
abbrev pub has_strange_byte : List ℕ → Bool
has_strange_byte line = list_any is_strange_byte line

abbrev pub is_strange : Token → Bool
is_strange Strange = true
is_strange _ = false

-- Token: before the comment a byte is in no word, and no mark, space or tab.
-- Own choice: docs/DECISIONS.md, "The assembler's faults"
abbrev pub has_strange_token : List ℕ → Bool
has_strange_token line = list_any is_strange (tokens_of line)

abbrev pub is_wrong_number : Token → Bool
is_wrong_number (Word w) = begins_with_digit w && is_none (number_of w)
is_wrong_number _ = false

-- the digits of `.hex` are no numbers
abbrev pub has_numbers : Shape → Bool
has_numbers (Directs w) = not (same_word w (codes ".hex"))
has_numbers _ = true

-- Number: a word that begins with a digit is no number of up to 32 bits.
-- Own choice: docs/DECISIONS.md, "The assembler's faults"
abbrev pub has_wrong_number : List ℕ → Bool
has_wrong_number line = has_numbers (shape_of (solid (tokens_of line))) && list_any is_wrong_number (tokens_of line)

-- Mnemonic: in a mnemonic's place stands neither one, nor a word that begins with a dot, nor nothing.
-- Own choice: docs/DECISIONS.md, "The assembler's faults"
abbrev pub has_no_mnemonic : Shape → Bool
has_no_mnemonic Other = true
has_no_mnemonic _ = false

-- Operands: what stands behind a mnemonic is no list of operands, or no opcode has these with these words before it.
-- Own choice: docs/DECISIONS.md, "The assembler's faults"
abbrev pub has_wrong_operands : Shape → Bool
has_wrong_operands (Operates p w ts) = is_none (operation_of p w ts)
has_wrong_operands _ = false

-- Directive: a word that begins with a dot stands in a mnemonic's place, and is no directive.
-- Own choice: docs/DECISIONS.md, "The assembler's faults"
abbrev pub has_no_directive : Shape → Bool
has_no_directive (Directs w) = is_none (form_among directives w)
has_no_directive _ = false

-- Arguments: what stands behind a directive, or a name and `=`, isn't of its form.
-- Own choice: docs/DECISIONS.md, "The assembler's faults"
abbrev pub has_wrong_arguments : List Token → Shape → Bool
has_wrong_arguments ts (Directs w) = not (is_none (form_among directives w)) && is_none (directive_of w ts)
has_wrong_arguments ts (Assigns w us) = is_none (signed us)
has_wrong_arguments ts _ = false

-- These seven kinds, in the order of their numbers, each with whether a line has it.
-- Own choice: docs/DECISIONS.md, "The assembler's faults"
abbrev pub own_kinds : List ℕ → List (AsmKind × Bool)
own_kinds line =
    let ts = tokens_of line in
    let shape = shape_of (solid ts) in
    (kinds.Ascii, has_strange_byte line) ∷ (kinds.Token, has_strange_token line) ∷ (kinds.Number, has_wrong_number line) ∷ (kinds.Mnemonic, has_no_mnemonic shape)
    ∷ (kinds.Operands, has_wrong_operands shape) ∷ (kinds.Directive, has_no_directive shape) ∷ (kinds.Arguments, has_wrong_arguments ts shape) ∷ []

-- the first kind that is there
unfoldable pub first_of : List (AsmKind × Bool) → Option AsmKind
first_of [] = None
first_of (k ∷ ks) = if k.1 then Some k.0 else first_of ks

-- The least of the kinds that a line has by itself, if it has one.
unfoldable pub own_kind : List ℕ → Option AsmKind
own_kind line = first_of (own_kinds line)

abbrev pub meaning_from : Option (List ℕ) → Option Statement → Meaning
meaning_from label None = record { label = None; statement = Nothing }
meaning_from label (Some s) = record { label = label; statement = s }

-- What a line means. One that has a kind of these makes no bytes and defines no name.
-- Own choice: docs/DECISIONS.md, "The assembler's faults"
unfoldable pub meaning_of : List ℕ → Meaning
meaning_of line = meaning_from (label_of (solid (tokens_of line))) (if is_some (own_kind line) then None else statement_in line)

abbrev pub judged : Option AsmKind → Meaning → Result Meaning AsmKind
judged (Some kind) m = Err kind
judged None m = Ok m

-- What a line means, or the least of the kinds that it has by itself.
unfoldable pub judged_line : List ℕ → Result Meaning AsmKind
judged_line line = judged (own_kind line) (meaning_of line)
