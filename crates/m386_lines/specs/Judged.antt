-- What is seen of a line by its tokens alone: its kinds behind the first, and what it says.
use Rattle.std.specs.Prelude.{Bool, ◌&&◌, List, [], ◌∷◌, Option, Some, None, Result, Ok, Err}
use Rattle.std.specs.List.{list_any}
use Rattle.m386_words.specs.Text.{Token, solid}
use Rattle.m386_lines.specs.declared.kind.AsmKind.{AsmKind}
use Rattle.m386_lines.specs.declared.kind.AsmKind.TheVariants as kinds
use Rattle.m386_lines.specs.declared.line.Statement.{Statement as SeenStatement}
use Rattle.m386_lines.specs.Faults.{is_strange, is_wrong_number, has_numbers, has_no_mnemonic, has_wrong_operands, has_no_directive, has_wrong_arguments, first_of}
use Rattle.m386_lines.specs.Lines.{Shape, Statement, shape_of, statement_of}
use Rattle.m386_lines.specs.Seen.{statement_seen}

-- the last four of a line's own kinds, which go by its shape
abbrev pub shape_kinds : List Token → Shape → List (AsmKind × Bool)
shape_kinds ts shape =
    (kinds.Mnemonic, has_no_mnemonic shape) ∷ (kinds.Operands, has_wrong_operands shape) ∷ (kinds.Directive, has_no_directive shape)
    ∷ (kinds.Arguments, has_wrong_arguments ts shape) ∷ []

-- all but the first of a line's own kinds, which go by its tokens
abbrev pub token_kinds : List Token → List (AsmKind × Bool)
token_kinds ts =
    let shape = shape_of (solid ts) in
    (kinds.Token, list_any is_strange ts) ∷ (kinds.Number, has_numbers shape && list_any is_wrong_number ts) ∷ shape_kinds ts shape

-- a kind, or else what is meant, if anything is
abbrev pub kind_or : Option AsmKind → Option Statement → Result (Option Statement) AsmKind
kind_or (Some kind) s = Err kind
kind_or None s = Ok s

-- what tokens of some shape mean, or the least of the kinds that they have
unfoldable pub judged_shape : List Token → Shape → Result (Option Statement) AsmKind
judged_shape ts shape = kind_or (first_of (shape_kinds ts shape)) (statement_of ts shape)

-- the same, by all kinds that tokens have
unfoldable pub judged_tokens : List Token → Result (Option Statement) AsmKind
judged_tokens ts = kind_or (first_of (token_kinds ts)) (statement_of ts (shape_of (solid ts)))

-- a statement, or a kind
abbrev pub judgement_seen : Result SeenStatement AsmKind → Result (Option Statement) AsmKind
judgement_seen (Ok s) = Ok (Some (statement_seen s))
judgement_seen (Err kind) = Err kind
