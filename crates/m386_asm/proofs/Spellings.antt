-- Whether bytes are a wide spelling can be decided, and how long a spelling without prefixes is.
use Rattle.std.proofs.Common.{◌≡◌, ℕ, ◌+◌, ◌≤◌, inl, inr, Bool, true, false, cond, List, [], ◌∷◌, ◌++◌, length, length-append, refl, sym, ◌∙◌, ap, arith, ◌||◌, nat_lt}
use Rattle.std.specs.Prelude.{Option, ◌==◌, slice_index, is_some}
use Rattle.std.specs.List.{All}
use Rattle.std.proofs.lemmas.Bool.{both_ways, or_cases, eqb-true, eq-eqb}
use Rattle.std.proofs.lemmas.List.Elements.{All-head}
use Rattle.m386_base.specs.declared.number.Width.{Width}
use Rattle.m386_opmap.specs.declared.op.Arg.{Arg}
use Rattle.m386_opmap.specs.declared.op.Op.{Op}
use Rattle.m386_opmap.specs.declared.row.Row.{Row}
use Rattle.m386_opmap.specs.Forms.{Form, absent, register, based, indexed, top_bits, low, displacement_length}
use Rattle.m386_opmap.specs.Opcodes.{opcode_rows}
use Rattle.m386_opmap.specs.Operands.{operand_length, has_modrm, tail_length, operation}
use Rattle.m386_opmap.specs.Prefix.{is_prefix, prefixes_of}
use Rattle.m386_opmap.specs.Spelling.{Spells, opcode_bytes}
use Rattle.m386_opmap.proofs.Complete.{form_middle}
use Rattle.m386_opmap.proofs.Lawful.{IsOpcode, lawful_row, opcodes_lawful, begins_from, opcode_of_row}
use Rattle.m386_opmap.proofs.Laws.{one_opcode_row}
use Rattle.m386_opmap.proofs.OneRow.{Same, same_parts}
use Rattle.m386_encode.specs.Wide.{is_full, HasWholeDisplacement, IsWide}
use Rattle.m386_encode.proofs.Places.{displacement_size, size_based, size_indexed}
use Rattle.m386_encode.proofs.RowParts.{has_shape, few_bytes}
use Rattle.m386_asm.proofs.Decisions.{spells_decided, by_either, both_decided}
use Rattle.m386_asm.proofs.Search.{Decided}

-- ---- the parts of a spelling

opcode_is : (op : Op) (bytes : List ℕ) (s : Spells op bytes) → IsOpcode s.opcode
opcode_is op bytes s = opcode_of_row s.opcode s.row (lawful_row opcode_rows s.row opcodes_lawful s.listed) (begins_from false s.opcode s.middle s.row (form_middle s.form) s.covered refl)

abbrev pub lengths : Width → Row → ℕ
lengths w r = operand_length w r.first + operand_length w r.second + operand_length w r.third

pub tail_is : (op : Op) (bytes : List ℕ) (s : Spells op bytes) → length s.tail ≡ lengths op.width s.row
unfolding tail_length operation
tail_is op bytes s = s.whole ∙ ap (λ w. lengths w s.row) (sym (ap (λ (o : Op). o.width) s.spelled))

same_front : (xs ys us vs : List ℕ) → xs ++ us ≡ ys ++ vs → length us ≡ length vs → xs ≡ ys
same_front [] [] us vs e h = refl
same_front [] (y ∷ ys) us vs e h = absurd (omega (arith, h, ap length e, length-append ys vs))
same_front (x ∷ xs) [] us vs e h = absurd (omega (arith, h, ap length e, length-append xs us))
same_front (x ∷ xs) (y ∷ ys) us vs e h = (let f : xs ++ us ≡ ys ++ vs = cc in let g : x ≡ y = cc in rw (g, same_front xs ys us vs f h) refl)

-- what the ModRM byte stands in is the same in all spellings of an operation by the same bytes
same_modrm : (op : Op) (bytes : List ℕ) (s t : Spells op bytes) → s.modrm ≡ t.modrm
same_modrm op bytes s t =
    let same : Same s.opcode t.opcode (s.modrm ++ s.tail) (t.modrm ++ t.tail) =
    same_parts s.prefixes t.prefixes s.opcode t.opcode (s.modrm ++ s.tail) (t.modrm ++ t.tail) s.are_prefixes t.are_prefixes (opcode_is op bytes s) (opcode_is op bytes t) (sym s.parts ∙ t.parts) in
    let row : s.row ≡ t.row = one_opcode_row op op bytes s t in
    same_front s.modrm t.modrm s.tail t.tail same.behind (tail_is op bytes s ∙ (ap (lengths op.width) row ∙ sym (tail_is op bytes t)))

-- ---- wide spellings

-- whether a ModRM byte with what stands behind it has a displacement of four bytes, if it names memory
unfoldable has_four : List ℕ → Bool
has_four [] = true
has_four (m ∷ ms) = (top_bits m == 3) || (displacement_size (m ∷ ms) == 4)

or_left_true : (a b : Bool) → a ≡ true → a || b ≡ true
or_left_true true b h = refl
or_left_true false b h = cc

or_right_true : (a b : Bool) → b ≡ true → a || b ≡ true
or_right_true true b h = refl
or_right_true false true h = refl
or_right_true false false h = cc

four_from : {seg : Option ℕ} {bytes : List ℕ} {mid : ℕ} {place : Option Arg} → (form : Form seg bytes mid place) → HasWholeDisplacement form → has_four bytes ≡ true
unfolding has_four
four_from absent w = refl
four_from (register m t) w = or_left_true (top_bits m == 3) _ (eq-eqb (top_bits m) 3 t)
four_from (based m ds t n l) w = or_right_true (top_bits m == 3) _ (eq-eqb (displacement_size (m ∷ ds)) 4 (size_based m ds t n ∙ w))
four_from (indexed m s ds t n l) w = or_right_true (top_bits m == 3) _ (eq-eqb (displacement_size (m ∷ s ∷ ds)) 4 (size_indexed m s ds t n ∙ w))

four_by : (m d : ℕ) → (top_bits m ≡ 3 → ⊥) → (top_bits m == 3) || (d == 4) ≡ true → d ≡ 4
four_by m d f h = elim (or_cases (top_bits m == 3) (d == 4) h) [ inl e ↦ absurd (f (eqb-true (top_bits m) 3 e)) | inr e ↦ eqb-true d 4 e ]

whole_from : {seg : Option ℕ} {bytes : List ℕ} {mid : ℕ} {place : Option Arg} → (form : Form seg bytes mid place) → has_four bytes ≡ true → HasWholeDisplacement form
unfolding has_four
whole_from absent h = tt
whole_from (register m t) h = tt
whole_from (based m ds t n l) h = sym (size_based m ds t n) ∙ four_by m (displacement_size (m ∷ ds)) t h
whole_from (indexed m s ds t n l) h = sym (size_indexed m s ds t n) ∙ four_by m (displacement_size (m ∷ s ∷ ds)) t h

test_decided : (a : Bool) → Decided (a ≡ true)
test_decided true = inl refl
test_decided false = inr (λ e. cc)

-- whether a spelling is wide
made_wide : (op : Op) (bytes : List ℕ) → Spells op bytes → Decided (IsWide op bytes)
made_wide op bytes s =
    by_either (λ p. record { spells = s; full = p.0; displaced = whole_from s.form p.1 })
    (λ w. (let row : w.spells.row ≡ s.row = one_opcode_row op op bytes w.spells s in
    let modrm : w.spells.modrm ≡ s.modrm = same_modrm op bytes w.spells s in
    (sym (ap is_full row) ∙ w.full, sym (ap has_four modrm) ∙ four_from w.spells.form w.displaced)))
    (both_decided (test_decided (is_full s.row)) (test_decided (has_four s.modrm)))

-- Whether bytes are a wide spelling of an operation can be decided.
pub wide_decided : (op : Op) (bytes : List ℕ) → Decided (IsWide op bytes)
wide_decided op bytes = elim (spells_decided op bytes) [ inl s ↦ made_wide op bytes s | inr f ↦ inr (λ w. f w.spells) ]

-- ---- spellings without prefixes

displacement_few : (mode base : ℕ) → displacement_length mode base ≤ 4
displacement_few mode base = grind arith

-- a ModRM byte with what stands behind it has at most six bytes, and none where the row has none
pub form_size : {seg : Option ℕ} {bytes : List ℕ} {mid : ℕ} {place : Option Arg} → Form seg bytes mid place → length bytes ≤ cond (is_some place) 6 0
form_size absent = omega arith
form_size (register m t) = omega arith
form_size (based m ds t n l) = omega (arith, l, displacement_few (top_bits m) (low m))
form_size (indexed m s ds t n l) = omega (arith, l, displacement_few (top_bits m) (low s))

pub opcode_size : (op : Op) (bytes : List ℕ) (s : Spells op bytes) → length (opcode_bytes s.opcode) ≤ cond (nat_lt s.row.high 2048) 1 2
opcode_size op bytes s = grind arith

no_prefix : (ps rest : List ℕ) → All (λ p. is_prefix p ≡ true) ps → is_prefix (slice_index (ps ++ rest) 0) ≡ false → ps ≡ []
no_prefix [] rest all h = refl
no_prefix (p ∷ ps) rest all h = absurd (both_ways (is_prefix p) h (All-head (λ p. is_prefix p ≡ true) p ps all))

-- A spelling without prefixes has none.
pub bare_prefixes : (op : Op) (bytes : List ℕ) (s : Spells op bytes) → is_prefix (slice_index bytes 0) ≡ false → s.prefixes ≡ []
bare_prefixes op bytes s h = no_prefix s.prefixes (opcode_bytes s.opcode ++ (s.modrm ++ s.tail)) s.are_prefixes (sym (ap (λ x. is_prefix (slice_index x 0)) s.parts) ∙ h)

-- It has at most 15 bytes.
pub bare_size : (op : Op) (bytes : List ℕ) (s : Spells op bytes) → is_prefix (slice_index bytes 0) ≡ false → length bytes ≤ 15
bare_size op bytes s h =
    let most = few_bytes s.row (prefixes_of s.prefixes).narrow (has_shape s.row s.listed) in
    let form : length s.modrm ≤ cond (has_modrm s.row) 6 0 = rw s.wanted (form_size s.form) in
    let none : length s.prefixes ≡ 0 = ap length (bare_prefixes op bytes s h) in
    let key = opcode_size op bytes s in
    omega (arith, most, form, none, key, s.whole, ap length s.parts, length-append s.prefixes (opcode_bytes s.opcode ++ (s.modrm ++ s.tail)), length-append (opcode_bytes s.opcode) (s.modrm ++ s.tail), length-append s.modrm s.tail)
