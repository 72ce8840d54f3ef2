-- The instruction that a line means is that of a row.
use Rattle.std.proofs.Common.{◌≡◌, ℕ, ◌⊎◌, inl, inr, Bool, true, false, cond, List, [], ◌∷◌, map, refl, ◌∙◌, ap, subst, ◌&&◌, ◌||◌, not}
use Rattle.std.specs.Prelude.{Option, Some, None, is_some, option_map}
use Rattle.std.specs.List.{All, Contains}
use Rattle.std.proofs.lemmas.Bool.{and_parts}
use Rattle.std.proofs.lemmas.List.Elements.{All-head, All-tail, All-contains_itself}
use Rattle.m386_base.specs.declared.number.Width.{Width}
use Rattle.m386_opmap.specs.declared.row.Operand.{Operand}
use Rattle.m386_opmap.specs.declared.row.Row.{Row}
use Rattle.m386_opmap.specs.Opcodes.{opcode_rows}
use Rattle.m386_opmap.specs.Operands.{width_of}
use Rattle.m386_encode.specs.Wide.{is_full}
use Rattle.m386_lines.specs.declared.instruction.Prefixing.{Prefixing}
use Rattle.m386_lines.specs.Faults.{meaning_of, meaning_from, own_kind}
use Rattle.m386_lines.specs.Instructions.{Argument, Instruction, instruction_of, first_choice, by_choice, by_row, matched, operands_of, size_wanted, may_be_narrow, is_prefixed}
use Rattle.m386_lines.specs.Lines.{Statement, Assign, Direct, Operate, Shape, Empty, Assigns, Directs, Operates, Other, statement_of, statement_in, operation_of, directive_of, label_of, shape_of}
use Rattle.m386_words.specs.declared.name.SizeWord.{SizeWord}
use Rattle.m386_words.specs.Expressions.{signed}
use Rattle.m386_words.specs.Mnemonics.{word_of, is_word}
use Rattle.m386_words.specs.Operands.{Written, operand}
use Rattle.m386_words.specs.Options.{option_then, all_some, option_else}
use Rattle.m386_words.specs.Text.{Token, solid, tokens_of, listed}

-- A full row with the name and width of an instruction, and the operands that are written at its own.
pub record Matched (i : Instruction) : Type 0 where
  pub row : Row
  pub listed : Contains opcode_rows row
  pub full : is_full row ≡ true
  pub named : row.name ≡ i.name
  pub narrow : Bool
  pub clear : not narrow || may_be_narrow row ≡ true
  pub width : i.width ≡ width_of row.size narrow
  pub size : Operand → Option SizeWord
  pub written : List Written
  pub args : matched row i.width size (operands_of row) written ≡ Some i.args

-- ---- options

then_some : {A B : Type 0} (o : Option A) (f : A → Option B) (b : B) → option_then o f ≡ Some b → (a : A) × ((o ≡ Some a) × (f a ≡ Some b))
then_some None f b e = cc
then_some (Some a) f b e = (a, (refl, e))

map_some : {A B : Type 0} (o : Option A) (f : A → B) (b : B) → option_map f o ≡ Some b → (a : A) × ((o ≡ Some a) × (f a ≡ b))
map_some None f b e = cc
map_some (Some a) f b e = (a, (refl, cc))

test_some : {A : Type 0} (c : Bool) (o : Option A) (a : A) → elim c [ true ↦ o | false ↦ None ] ≡ Some a → (c ≡ true) × (o ≡ Some a)
test_some true o a e = (refl, e)
test_some false o a e = cc

if_some : {A : Type 0} (c : Bool) (x a : A) → cond c (Some x) None ≡ Some a → x ≡ a
if_some true x a e = cc
if_some false x a e = cc

-- ---- a row

abbrev as_instruction : Prefixing → Row → Width → List Argument → Instruction
as_instruction p r w xs = record { name = r.name; width = w; args = xs; lock = p.lock; rep = p.rep }

by_row_matched : (p : Prefixing) (os : List Written) (r : Row) (narrow : Bool) (i : Instruction) → Contains opcode_rows r → is_full r ≡ true → not narrow || may_be_narrow r ≡ true →
    by_row p os r (width_of r.size narrow) ≡ Some i → Matched i
unfolding by_row
by_row_matched p os r narrow i listed full clear e =
    let w : Width = width_of r.size narrow in
    let s : Operand → Option SizeWord = size_wanted r.name w os (operands_of r) in
    let t = then_some (matched r w s (operands_of r) os) _ i e in
    let is : as_instruction p r w t.0 ≡ i = if_some (is_prefixed p r t.0) (as_instruction p r w t.0) i t.1.1 in
    let M : Instruction → Type 0 = Matched in
    subst M is (record { row = r; listed = listed; full = full; named = refl; narrow = narrow; clear = clear; width = refl; size = s; written = os; args = t.1.0 })

by_choice_matched : (p : Prefixing) (word : List ℕ) (os : List Written) (r : Row) (narrow : Bool) (i : Instruction) → Contains opcode_rows r → by_choice p word os r narrow ≡ Some i → Matched i
by_choice_matched p word os r narrow i listed e =
    let t = test_some (is_full r && (not narrow || may_be_narrow r) && is_word (word_of r.name (width_of r.size narrow)) word) (by_row p os r (width_of r.size narrow)) i e in
    let a = and_parts (is_full r && (not narrow || may_be_narrow r)) (is_word (word_of r.name (width_of r.size narrow)) word) t.0 in
    let b = and_parts (is_full r) (not narrow || may_be_narrow r) a.0 in
    by_row_matched p os r narrow i listed b.0 b.1 t.1

first_some : {A : Type 0} (x y z : Option A) (a : A) → option_else (option_else x y) z ≡ Some a → (x ≡ Some a) ⊎ ((y ≡ Some a) ⊎ (z ≡ Some a))
first_some (Some b) y z a e = inl e
first_some None (Some b) z a e = inr (inl e)
first_some None None z a e = inr (inr e)

first_matched : (p : Prefixing) (word : List ℕ) (os : List Written) (rows : List Row) (i : Instruction) → All (Contains opcode_rows) rows → first_choice p word os rows ≡ Some i → Matched i
unfolding first_choice
first_matched p word os [] i all e = cc
first_matched p word os (r ∷ rs) i all e =
    let listed : Contains opcode_rows r = All-head (Contains opcode_rows) r rs all in
    elim (first_some (by_choice p word os r false) (by_choice p word os r true) (first_choice p word os rs) i e) [
      | inl f ↦ by_choice_matched p word os r false i listed f
      | inr g ↦ elim g [ inl f ↦ by_choice_matched p word os r true i listed f | inr f ↦ first_matched p word os rs i (All-tail (Contains opcode_rows) r rs all) f ]
    ]

instruction_matched : (p : Prefixing) (word : List ℕ) (os : List Written) (i : Instruction) → instruction_of p word os ≡ Some i → Matched i
unfolding instruction_of
instruction_matched p word os i e = first_matched p word os opcode_rows i (All-contains_itself opcode_rows) e

-- ---- a line

operation_matched : (p : Prefixing) (w : List ℕ) (us : List Token) (i : Instruction) → operation_of p w us ≡ Some i → Matched i
operation_matched p w us i e = (let t = then_some (all_some (map operand (listed us))) (λ os. instruction_of p w os) i e in instruction_matched p w t.0 i t.1.1)

statement_matched : (ts : List Token) (shape : Shape) (i : Instruction) → statement_of ts shape ≡ Some (Operate i) → Matched i
statement_matched ts Empty i e = cc
statement_matched ts (Assigns w us) i e = (let t = map_some (signed us) (Assign w) (Operate i) e in let f : Assign w t.0 ≡ Operate i = t.1.1 in cc)
statement_matched ts (Directs w) i e = (let t = map_some (directive_of w ts) Direct (Operate i) e in let f : Direct t.0 ≡ Operate i = t.1.1 in cc)
statement_matched ts (Operates p w us) i e =
    let t = map_some (operation_of p w us) Operate (Operate i) e in
    let same : t.0 ≡ i = (let f : Operate t.0 ≡ Operate i = t.1.1 in cc) in
    operation_matched p w us i (t.1.0 ∙ ap Some same)
statement_matched ts Other i e = cc

meaning_some : (label : Option (List ℕ)) (o : Option Statement) (i : Instruction) → (meaning_from label o).statement ≡ Operate i → o ≡ Some (Operate i)
meaning_some label None i e = cc
meaning_some label (Some s) i e = ap Some e

unless_some : {A : Type 0} (c : Bool) (o : Option A) (a : A) → cond c None o ≡ Some a → o ≡ Some a
unless_some true o a e = cc
unless_some false o a e = e

-- The instruction that a line means is that of a row.
pub meant : (line : List ℕ) (i : Instruction) → (meaning_of line).statement ≡ Operate i → Matched i
unfolding meaning_of statement_in
meant line i e =
    let ts : List Token = tokens_of line in
    let some = meaning_some (label_of (solid ts)) (cond (is_some (own_kind line)) None (statement_in line)) i e in
    statement_matched ts (shape_of (solid ts)) i (unless_some (is_some (own_kind line)) (statement_in line) (Operate i) some)
