-- What a row's candidate has in place of the opcode and of what the ModRM byte names.
use Rattle.std.proofs.Common.{◌≡◌, ℕ, ◌+◌, ◌*◌, ◌/◌, ◌<◌, ◌≤◌, inl, inr, true, false, cond, List, [], length, refl, sym, ◌∙◌, ap, arith, subst, ◌||◌}
use Rattle.std.specs.Prelude.{Option, Some, None, is_some}
use Rattle.std.specs.List.{Contains}
use Rattle.std.proofs.lemmas.Bool.{cases_Bool, and_parts, or_cases, eqb-true}
use Rattle.m386_base.specs.declared.number.Width.{Width}
use Rattle.m386_opmap.specs.declared.fields.Fields.{Fields}
use Rattle.m386_opmap.specs.declared.op.Arg.{Arg}
use Rattle.m386_opmap.specs.declared.row.Operand.{Operand}
use Rattle.m386_opmap.specs.declared.row.Row.{Row}
use Rattle.m386_opmap.specs.Forms.{Form}
use Rattle.m386_opmap.specs.Opcodes.{opcode_rows}
use Rattle.m386_opmap.specs.Operands.{operand_value, has_modrm, width_of, is_memory}
use Rattle.m386_opmap.specs.Prefix.{prefixes_of}
use Rattle.m386_opmap.specs.Rows.{Covers}
use Rattle.m386_opmap.proofs.Complete.{form_middle, form_absent}
use Rattle.m386_opmap.proofs.Lawful.{opcodes_lawful, lawful_row, selected, whole_row}
use Rattle.m386_opmap.proofs.Outcomes.{fields_at}
use Rattle.m386_encode.specs.Candidates.{is_middle, is_low, is_place, opcode, middle_of, named_segment, place_bytes, form_bytes}
use Rattle.m386_encode.specs.Order.{is_before}
use Rattle.m386_encode.proofs.Marks.{IsSegment}
use Rattle.m386_encode.proofs.Octets.{place_are, place_size}
use Rattle.m386_encode.proofs.Ordered.{before_self}
use Rattle.m386_encode.proofs.Places.{Again, AgainOf, Fits, displacement_size, place_again}
use Rattle.m386_encode.proofs.RowParts.{Names, names, place_said, Shaped, no_low, eight}
use Rattle.m386_encode.proofs.Segments.{seg_is, seg_of_first, seg_of_second, form_names, form_under, last_is, plain_memory_value}
use Rattle.m386_encode.proofs.Taken.{its, some_place, place_stands, middle_taken, form_taken, form_free}
use Rattle.m386_encode.proofs.Values.{Bytes, is_plain}
use Rattle.m386_encode.proofs.Whole.{key_selected, key_whole}

-- The ModRM byte with what follows it, and the opcode, that the candidate of a row has from these operands, by a mode.
pub record Named (r : Row) (f : Fields) (xs : List Arg) (mode : ℕ) (modrm : List ℕ) : Type 0 where
  pub mid : ℕ
  pub form : Form (named_segment xs) (form_bytes r mode xs) mid f.place
  pub first : is_before modrm (form_bytes r mode xs) ≡ false
  pub sized : displacement_size (form_bytes r mode xs) ≡ displacement_size modrm
  pub are : Bytes (form_bytes r mode xs)
  pub size : length (form_bytes r mode xs) ≤ cond (has_modrm r) 6 0
  pub small : mid < 8
  pub covered : Covers r (8 * opcode r xs + mid)
  pub earlier : opcode r xs ≤ f.opcode
  pub low : is_low r.first || is_low r.second ≡ true → opcode r xs ≡ f.opcode
  pub middle : is_middle r.first || is_middle r.second ≡ true → f.middle ≡ mid

memory_some : (place : Option Arg) → is_memory place ≡ true → is_some place ≡ true
memory_some None h = cc
memory_some (Some p) h = refl

pub said_is : (ps : List ℕ) → IsSegment (prefixes_of ps).seg
unfolding prefixes_of
said_is ps = last_is ps

module _ (r : Row) (ps : List ℕ) (o : ℕ) (modrm tail : List ℕ) (mid : ℕ) (place : Option Arg) (listed : Contains opcode_rows r) (shape : Shaped r) (form : Form (prefixes_of ps).seg modrm mid place)
    (wanted : has_modrm r ≡ is_some place) where
  abbrev pub width : Width
  width = width_of r.size (prefixes_of ps).narrow

  abbrev value : Operand → Option Arg
  value x = operand_value (fields_at ps o mid place) width tail x

  -- the operands
  abbrev pub operands : List Arg
  operands = its (fields_at ps o mid place) width tail r shape.placed wanted

  named_first : Names (prefixes_of ps).seg (value r.first)
  named_first = names (fields_at ps o mid place) width tail r.first (form_names (prefixes_of ps).seg modrm mid place form)

  named_second : Names (prefixes_of ps).seg (value r.second)
  named_second = names (fields_at ps o mid place) width tail r.second (form_names (prefixes_of ps).seg modrm mid place form)

  named_third : Names (prefixes_of ps).seg (value r.third)
  named_third = names (fields_at ps o mid place) width tail r.third (form_names (prefixes_of ps).seg modrm mid place form)

  -- their segment register is none, or that of the prefixes
  pub seg_either : (P : Option ℕ → Type 0) → P None → P (prefixes_of ps).seg → P (named_segment operands)
  seg_either P e s = seg_is P (prefixes_of ps).seg (value r.first) (value r.second) (value r.third) named_first named_second named_third e s

  pub plain_first : is_plain r.first ≡ true → (prefixes_of ps).seg ≡ named_segment operands
  plain_first h = sym (seg_of_first (prefixes_of ps).seg (value r.first) (value r.second) (value r.third) named_first (plain_memory_value (fields_at ps o mid place) width tail r.first h))

  pub plain_second : is_plain r.second ≡ true → (prefixes_of ps).seg ≡ named_segment operands
  plain_second h = sym (seg_of_second (prefixes_of ps).seg (value r.first) (value r.second) (value r.third) named_first named_second (plain_memory_value (fields_at ps o mid place) width tail r.second h))

  place_agrees : is_memory place ≡ true → (prefixes_of ps).seg ≡ named_segment operands
  place_agrees h =
      let f : Fields = fields_at ps o mid place in
      elim (or_cases (is_place r.first) (is_place r.second) (place_stands f width tail r shape.placed wanted (wanted ∙ memory_some place h))) [
        | inl e ↦ sym (seg_of_first (prefixes_of ps).seg (value r.first) (value r.second) (value r.third) named_first (ap is_memory (place_said f width tail r.first e) ∙ h))
        | inr e ↦ sym (seg_of_second (prefixes_of ps).seg (value r.first) (value r.second) (value r.third) named_first named_second (ap is_memory (place_said f width tail r.second e) ∙ h))
      ]

  form_again : Form (named_segment operands) modrm mid place
  form_again = form_under (prefixes_of ps).seg (named_segment operands) modrm mid place (is_memory place) refl form place_agrees

  module _ (mode : ℕ) (covered : Covers r (8 * o + mid)) (are : Bytes modrm) (fits : Fits mode place modrm) where
    with_place : has_modrm r ≡ true → Named r (fields_at ps o mid place) operands mode modrm
    with_place with =
        let f : Fields = fields_at ps o mid place in
        let same : r.low / 8 ≡ r.high / 8 = eqb-true (r.low / 8) (r.high / 8) (and_parts _ _ (selected r (lawful_row opcode_rows r opcodes_lawful listed) with)).0 in
        let bits : mid < 8 = form_middle form in
        let key = key_selected f width tail r shape.placed wanted same (omega (arith, covered.0, covered.1)) bits (no_low r shape with) covered in
        let at = some_place place (sym wanted ∙ with) in
        let bytes : form_bytes r mode operands ≡ place_bytes (middle_of r operands) mode at.0 = form_taken f width tail r shape.placed wanted mode at.0 at.1 with in
        let P : Option Arg → Type 0 = λ x. AgainOf (named_segment operands) (middle_of r operands) mode x modrm in
        let again : Again (named_segment operands) (middle_of r operands) mode at.0 modrm = subst P at.1 (place_again (named_segment operands) modrm mid place (middle_of r operands) mode key.2 key.1 are fits form_again) in
        let F : List ℕ → Type 0 = λ x. Form (named_segment operands) x (middle_of r operands) (Some at.0) in
        let G : Option Arg → Type 0 = λ x. Form (named_segment operands) (form_bytes r mode operands) (middle_of r operands) x in
        let B : List ℕ → Type 0 = λ x. is_before modrm x ≡ false in
        let A : List ℕ → Type 0 = Bytes in
        record {
          mid = middle_of r operands;
          form = subst G (sym at.1) (subst F (sym bytes) again.form);
          first = subst B (sym bytes) again.first;
          sized = ap displacement_size bytes ∙ again.sized;
          are = subst A (sym bytes) (place_are (middle_of r operands) mode at.0 key.2);
          size = rw with (omega (arith, ap length bytes, place_size (middle_of r operands) mode at.0));
          small = key.2;
          covered = key.3;
          earlier = omega (arith, key.0);
          low = λ e. key.0;
          middle = λ e. sym (middle_taken f width tail r shape.placed wanted bits e);
        }

    with_none : has_modrm r ≡ false → Named r (fields_at ps o mid place) operands mode modrm
    with_none without =
        let f : Fields = fields_at ps o mid place in
        let none = form_absent form (sym wanted ∙ without) in
        let row = whole_row r (lawful_row opcode_rows r opcodes_lawful listed) without in
        let at : Covers r (8 * o) = (omega (arith, covered.0, none.1), omega (arith, covered.1, none.1)) in
        let key = key_whole f width tail r shape.placed wanted row.from (omega (arith, covered.0, covered.1)) (eight r shape) at in
        let bytes : form_bytes r mode operands ≡ [] = form_free f width tail r shape.placed wanted mode without in
        let same : form_bytes r mode operands ≡ modrm = bytes ∙ sym none.0 in
        let F : List ℕ → Type 0 = λ x. Form (named_segment operands) x mid place in
        let B : List ℕ → Type 0 = λ x. is_before modrm x ≡ false in
        let A : List ℕ → Type 0 = Bytes in
        record {
          mid = mid;
          form = subst F (sym same) form_again;
          first = subst B (sym same) (before_self modrm);
          sized = ap displacement_size same;
          are = subst A (sym same) are;
          size = omega (arith, ap length bytes);
          small = omega (arith, none.1);
          covered = (omega (arith, key.2.0, none.1), omega (arith, key.2.1, none.1));
          earlier = key.0;
          low = key.1;
          middle = λ e. refl;
        }

    pub named_again : Named r (fields_at ps o mid place) operands mode modrm
    named_again = elim (cases_Bool (has_modrm r)) [ inl e ↦ with_place e | inr e ↦ with_none e ]
