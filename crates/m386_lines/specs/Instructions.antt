-- Which operation a mnemonic with its operands means.
use Rattle.std.specs.Prelude.{ℕ, ◌+◌, ◌*◌, ◌/◌, ◌==◌, Bool, true, false, ◌&&◌, ◌||◌, not, List, [], ◌∷◌, Option, Some, None, if◌then◌else◌}
use Rattle.std.specs.List.{list_any}
use Rattle.std.specs.Option.{option_map}
use Rattle.m386_base.specs.declared.number.Width.{Width}
use Rattle.m386_base.specs.declared.number.Width.TheVariants.{W8, W16, W32}
use Rattle.m386_opmap.specs.declared.name.Name.{Name}
use Rattle.m386_opmap.specs.declared.name.Name.TheVariants.{Movzx8, Movzx16, Movsx8, Movsx16, Lar, Lsl, Callf, Jmpf}
use Rattle.m386_opmap.specs.declared.op.Arg.{Arg}
use Rattle.m386_opmap.specs.declared.op.Arg.TheVariants as args
use Rattle.m386_opmap.specs.declared.op.Rep.{Rep}
use Rattle.m386_opmap.specs.declared.op.Rep.TheVariants.{Once}
use Rattle.m386_opmap.specs.declared.row.Operand.{Operand}
use Rattle.m386_opmap.specs.declared.row.Operand.TheVariants.{Absent, E, M, R, G, S, Low, I, Ib, Iw, Jb, J, A, X, Table, Eax, Cl, Dx, Es, Cs, Ss, Ds, Fs, Gs, Cr0}
use Rattle.m386_opmap.specs.declared.row.Row.{Row}
use Rattle.m386_opmap.specs.Forms.{width_bits}
use Rattle.m386_opmap.specs.Opcodes.{opcode_rows}
use Rattle.m386_opmap.specs.Operands.{width_of, suits, plain_memory, is_string}
use Rattle.m386_opmap.specs.Rows.{covers_key}
use Rattle.m386_encode.specs.Wide.{is_full}
use Rattle.m386_lines.specs.declared.instruction.Prefixing.{Prefixing}
use Rattle.m386_lines.specs.declared.matching.Slot.{Slot}
use Rattle.m386_lines.specs.declared.matching.Slot.TheVariants as slots
use Rattle.m386_words.specs.declared.name.SizeWord.{SizeWord}
use Rattle.m386_words.specs.declared.name.SizeWord.TheVariants.{Byte, Word, Double, Far as FarWord}
use Rattle.m386_words.specs.Options.{option_then, option_else}
use Rattle.m386_words.specs.Expressions.{Expression}
use Rattle.m386_words.specs.Operands.{Place, Written, General, Segment, Control, Number, Pointer, Memory}
use Rattle.m386_words.specs.Mnemonics.{word_of, is_word}

-- An operand whose numbers may have names: of an immediate with its bits, of a jump's target, of a far pointer, of memory.
pub data Argument : Type 0 where
  Fixed : Arg → Argument
  Immediate : ℕ → Expression → Argument
  Target : Expression → Argument
  Far : Expression → Expression → Argument
  At : Place → Argument

pub record Instruction : Type 0 where
  pub name : Name
  pub width : Width
  pub args : List Argument
  pub lock : Bool
  pub rep : Rep

abbrev pub same_width : Width → Width → Bool
same_width W8 W8 = true
same_width W16 W16 = true
same_width W32 W32 = true
same_width _ _ = false

-- how wide the register or memory of the ModRM byte is
abbrev pub width_of_e : Name → Width → Width
width_of_e Movzx8 w = W8
width_of_e Movsx8 w = W8
width_of_e Movzx16 w = W16
width_of_e Movsx16 w = W16
width_of_e Lar w = W16
width_of_e Lsl w = W16
width_of_e _ w = w

-- ---- the word before memory

abbrev pub is_register_of : Width → Written → Bool
is_register_of w (General v r) = same_width v w
is_register_of w (Segment s) = same_width W16 w
is_register_of w _ = false

abbrev pub is_count : Operand → Bool
is_count Cl = true
is_count _ = false

-- whether a register operand has this width, but for CL as a count
unfoldable pub is_beside : Width → List Operand → List Written → Bool
is_beside w (p ∷ ps) (o ∷ os) = not (is_count p) && is_register_of w o || is_beside w ps os
is_beside w _ _ = false

-- the word of a width
abbrev pub word_of_width : Width → SizeWord
word_of_width W8 = Byte
word_of_width W16 = Word
word_of_width W32 = Double

-- the word before memory that a row alone reads or names: only what holds a far pointer has one
abbrev pub far_word : Name → Option SizeWord
far_word Callf = Some FarWord
far_word Jmpf = Some FarWord
far_word _ = None

-- The word that stands before memory: where no register has its width, or before a far pointer.
-- Own choice: docs/DECISIONS.md, "The assembler's text"
unfoldable pub size_wanted : Name → Width → List Written → List Operand → Operand → Option SizeWord
size_wanted name w os ps M = far_word name
size_wanted name w os ps _ = if is_beside (width_of_e name w) ps os then None else Some (word_of_width (width_of_e name w))

abbrev pub same_word_of_size : SizeWord → SizeWord → Bool
same_word_of_size Byte Byte = true
same_word_of_size Word Word = true
same_word_of_size Double Double = true
same_word_of_size FarWord FarWord = true
same_word_of_size _ _ = false

abbrev pub same_size : Option SizeWord → Option SizeWord → Bool
same_size None None = true
same_size (Some a) (Some b) = same_word_of_size a b
same_size _ _ = false

-- ---- one operand of a row

abbrev pub register_if : Bool → ℕ → Option Argument
register_if c r = if c then Some (Fixed (args.Reg r)) else None

abbrev pub segment_if : Bool → ℕ → Option Argument
segment_if c s = if c then Some (Fixed (args.Seg s)) else None

-- what a written operand is at an operand of a row
unfoldable pub argument : Row → Width → Option SizeWord → Operand → Written → Option Argument
argument r w size E (General v n) = register_if (same_width v (width_of_e r.name w)) n
argument r w size E (Memory s p) = if same_size s size then Some (At p) else None
argument r w size M (Memory s p) = if same_size s size then Some (At p) else None
argument r w size R (General v n) = register_if (same_width v w) n
argument r w size G (General v n) = register_if (same_width v w) n
argument r w size Low (General v n) = register_if (same_width v w) n
argument r w size Eax (General v n) = register_if (same_width v w && n == 0) n
argument r w size Cl (General v n) = register_if (same_width v W8 && n == 1) n
argument r w size Dx (General v n) = register_if (same_width v W16 && n == 2) n
argument r w size S (Segment s) = segment_if (covers_key (r.low / 8 * 8 + s) r) s
argument r w size Es (Segment s) = segment_if (s == 0) s
argument r w size Cs (Segment s) = segment_if (s == 1) s
argument r w size Ss (Segment s) = segment_if (s == 2) s
argument r w size Ds (Segment s) = segment_if (s == 3) s
argument r w size Fs (Segment s) = segment_if (s == 4) s
argument r w size Gs (Segment s) = segment_if (s == 5) s
argument r w size Cr0 Control = Some (Fixed args.Cr0)
argument r w size I (Number e) = Some (Immediate (width_bits w) e)
argument r w size Ib (Number e) = Some (Immediate 8 e)
argument r w size Iw (Number e) = Some (Immediate 16 e)
argument r w size Jb (Number e) = Some (Target e)
argument r w size J (Number e) = Some (Target e)
argument r w size A (Pointer s o) = Some (Far s o)
argument r w size _ _ = None

-- ---- a row

abbrev pub operands_of : Row → List Operand
operands_of r = r.first ∷ r.second ∷ r.third ∷ []

abbrev pub with_argument : Option Argument → Option (List Argument) → Option (List Argument)
with_argument a rest = option_then a (λ a. option_map (λ as_. a ∷ as_) rest)

-- what stands in a line at an operand of a row: nothing, also where memory is read by a register, or an operand
abbrev pub slot_of : Operand → Slot
slot_of Absent = slots.Left
slot_of X = slots.Read 6
slot_of Table = slots.Read 3
slot_of _ = slots.Taken

-- the written operands at those of a row; what a string operation or XLAT reads isn't written
unfoldable pub matched : Row → Width → (Operand → Option SizeWord) → List Operand → List Written → Option (List Argument)
matched r w size [] [] = Some []
matched r w size [] (o ∷ os) = None
matched r w size (p ∷ ps) os =
    elim (slot_of p) [
      | slots.Left ↦ matched r w size ps os
      | slots.Read b ↦ with_argument (Some (Fixed (plain_memory None (Some b) 0))) (matched r w size ps os)
      | slots.Taken ↦ elim os [ [] ↦ None | o ∷ more ↦ with_argument (argument r w (size p) p o) (matched r w size ps more) ]
    ]

abbrev pub is_at : Argument → Bool
is_at (At p) = true
is_at _ = false

abbrev pub is_once : Rep → Bool
is_once Once = true
is_once _ = false

-- whether a row may stand behind these words, with these operands
abbrev pub is_prefixed : Prefixing → Row → List Argument → Bool
is_prefixed p r as_ = suits r p.lock (list_any is_at as_) && (is_once p.rep || is_string r.name)

abbrev pub tells : Operand → Bool
tells E = true
tells R = true
tells G = true
tells Low = true
tells Eax = true
tells _ = false

-- Whether a line can say that the operation has 16 bits: by a register, by the word before memory, or by the mnemonic.
-- Own choice: docs/DECISIONS.md, "The assembler's text"
abbrev pub may_be_narrow : Row → Bool
may_be_narrow r = is_string r.name || list_any tells (operands_of r)

-- a row as an instruction with these operands
unfoldable pub by_row : Prefixing → List Written → Row → Width → Option Instruction
by_row p os r w =
    option_then (matched r w (size_wanted r.name w os (operands_of r)) (operands_of r) os)
    (λ as_. if is_prefixed p r as_ then Some (record { name = r.name; width = w; args = as_; lock = p.lock; rep = p.rep }) else None)

-- the same, of a row that has the word, and whose operands have their full size: the others are the same operations
abbrev pub by_choice : Prefixing → List ℕ → List Written → Row → Bool → Option Instruction
by_choice p word os r narrow =
    elim (is_full r && (not narrow || may_be_narrow r) && is_word (word_of r.name (width_of r.size narrow)) word) [ true ↦ by_row p os r (width_of r.size narrow) | false ↦ None ]

-- the same, of the full width, or else of 16 bits
abbrev pub in_either_width : Prefixing → List ℕ → List Written → Row → Option Instruction
in_either_width p word os r = option_else (by_choice p word os r false) (by_choice p word os r true)

-- the first of these rows
unfoldable pub first_choice : Prefixing → List ℕ → List Written → List Row → Option Instruction
first_choice p word os [] = None
first_choice p word os (r ∷ rs) = option_else (in_either_width p word os r) (first_choice p word os rs)

-- The instruction of a mnemonic with operands: a row of the opcode table has the word, operands of these kinds and width, and
-- these words before it.
-- Own choice: docs/DECISIONS.md, "The assembler's text"
unfoldable pub instruction_of : Prefixing → List ℕ → List Written → Option Instruction
instruction_of p word os = first_choice p word os opcode_rows
