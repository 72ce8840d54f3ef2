-- Where an operation has a spelling it has a wide one.
use Rattle.std.proofs.Common.{◌≡◌, ℕ, ◌+◌, ◌-◌, ◌*◌, ◌/◌, ◌<◌, ◌≤◌, Bool, true, false, List, [], ◌∷◌, ◌++◌, length, inl, inr, refl, sym, ◌∙◌, ap, arith, subst, ◌&&◌, ◌||◌, not}
use Rattle.std.specs.Prelude.{Option, is_some, option_to_list, if◌then◌else◌}
use Rattle.std.specs.List.{All, Contains}
use Rattle.std.proofs.lemmas.Bool.{and_parts, or_cases, cases_Bool, le-ltb, lt-ltb}
use Rattle.std.proofs.lemmas.List.Elements.{All-append, All-cons, All-nil, All-get_or, All-from_get_or}
use Rattle.m386_base.specs.declared.number.Width.{Width}
use Rattle.m386_opmap.specs.declared.fields.Fields.{Fields}
use Rattle.m386_opmap.specs.declared.fields.Prefixes.{Prefixes}
use Rattle.m386_opmap.specs.declared.op.Rep.TheVariants.{Once}
use Rattle.m386_opmap.specs.declared.op.Arg.{Arg}
use Rattle.m386_opmap.specs.declared.op.Op.{Op}
use Rattle.m386_opmap.specs.declared.row.Row.{Row}
use Rattle.m386_opmap.specs.Opcodes.{opcode_rows}
use Rattle.m386_opmap.specs.Operands.{operand_value, operand_length, has_modrm, wants_memory, wants_register, suits, is_memory, is_string, tail_length, operation, width_of}
use Rattle.m386_opmap.specs.Prefix.{is_prefix, prefixes_of}
use Rattle.m386_opmap.specs.Rows.{Covers}
use Rattle.m386_opmap.specs.Spelling.{Spells, opcode_bytes}
use Rattle.m386_opmap.proofs.Complete.{form_middle}
use Rattle.m386_opmap.proofs.Lawful.{IsOpcode, byte, pair, begins_from, opcode_of_row, lawful_row, opcodes_lawful}
use Rattle.m386_opmap.proofs.Outcomes.{fields_at}
use Rattle.m386_opmap.proofs.Sound.{AllAreBytes, front_bytes, back_bytes}
use Rattle.m386_encode.specs.Wide.{is_full, IsWide}
use Rattle.m386_encode.proofs.Fuller.{fuller, full_row, full_opcode, is_short, is_kept, is_turned, full_tail, value_full, value_kept, length_full, length_kept, full_are, Widens, widens}
use Rattle.m386_encode.proofs.InFull.{Whole, form_whole}
use Rattle.m386_encode.proofs.Values.{Bytes}

-- the bytes behind opcode and ModRM by the row in full
record Turned (r : Row) (f g : Fields) (w : Width) (tail : List ℕ) : Type 0 where
  pub bytes : List ℕ
  pub are : Bytes bytes
  pub size : length bytes ≡ operand_length w (fuller r.first) + operand_length w (fuller r.second) + operand_length w (fuller r.third)
  pub first : operand_value g w bytes (fuller r.first) ≡ operand_value f w tail r.first
  pub second : operand_value g w bytes (fuller r.second) ≡ operand_value f w tail r.second
  pub third : operand_value g w bytes (fuller r.third) ≡ operand_value f w tail r.third

turned : (r : Row) (f g : Fields) (w : Width) (tail : List ℕ) → is_turned r ≡ true → Bytes tail → f.place ≡ g.place → f.middle ≡ g.middle → f.prefixes ≡ g.prefixes → Turned r f g w tail
turned r f g w tail h b p m q =
    elim (or_cases (is_short r.first && (is_kept r.second && is_kept r.third)) ((is_kept r.first && (is_short r.second && is_kept r.third)) || (is_kept r.first && (is_kept r.second && is_short r.third))) h) [
      | inl e ↦ (let x = and_parts (is_short r.first) (is_kept r.second && is_kept r.third) e in
          let y = and_parts (is_kept r.second) (is_kept r.third) x.1 in
          record {
            bytes = full_tail w tail r.first;
            are = full_are w tail r.first x.0;
            size = omega (arith, length_full w tail r.first x.0, length_kept w r.second y.0, length_kept w r.third y.1);
            first = sym (value_full f g w tail r.first x.0 b);
            second = sym (value_kept f g w tail _ r.second y.0 p m q);
            third = sym (value_kept f g w tail _ r.third y.1 p m q);
          })
      | inr d ↦ elim (or_cases (is_kept r.first && (is_short r.second && is_kept r.third)) (is_kept r.first && (is_kept r.second && is_short r.third)) d) [
        | inl e ↦ (let x = and_parts (is_kept r.first) (is_short r.second && is_kept r.third) e in
            let y = and_parts (is_short r.second) (is_kept r.third) x.1 in
            record {
              bytes = full_tail w tail r.second;
              are = full_are w tail r.second y.0;
              size = omega (arith, length_kept w r.first x.0, length_full w tail r.second y.0, length_kept w r.third y.1);
              first = sym (value_kept f g w tail _ r.first x.0 p m q);
              second = sym (value_full f g w tail r.second y.0 b);
              third = sym (value_kept f g w tail _ r.third y.1 p m q);
            })
        | inr e ↦ (let x = and_parts (is_kept r.first) (is_kept r.second && is_short r.third) e in
            let y = and_parts (is_kept r.second) (is_short r.third) x.1 in
            record {
              bytes = full_tail w tail r.third;
              are = full_are w tail r.third y.1;
              size = omega (arith, length_kept w r.first x.0, length_kept w r.second y.0, length_full w tail r.third y.1);
              first = sym (value_kept f g w tail _ r.first x.0 p m q);
              second = sym (value_kept f g w tail _ r.second y.0 p m q);
              third = sym (value_full f g w tail r.third y.1 b);
            })
      ]
    ]

-- an operation from its operands
abbrev op_of : Row → Prefixes → Option Arg → Option Arg → Option Arg → Op
op_of r said a b c =
    record {
      name = r.name;
      width = width_of r.size said.narrow;
      args = record { items = option_to_list a ++ option_to_list b ++ option_to_list c };
      lock = said.lock;
      rep = if is_string r.name then said.rep else Once;
    }

same_op : (r : Row) (said : Prefixes) (a b c x y z : Option Arg) → a ≡ x → b ≡ y → c ≡ z → op_of r said a b c ≡ op_of r said x y z
same_op r said a b c x y z p q u = rw (p, q, u) refl

full_operation : (r : Row) (ps : List ℕ) (o other mid : ℕ) (place : Option Arg) (tail : List ℕ) →
    (t : Turned r (fields_at ps o mid place) (fields_at ps other mid place) (width_of r.size (prefixes_of ps).narrow) tail) →
    operation (full_row r) (fields_at ps other mid place) t.bytes ≡ operation r (fields_at ps o mid place) tail
unfolding operation
full_operation r ps o other mid place tail t = same_op r (prefixes_of ps) _ _ _ _ _ _ t.first t.second t.third

suited_by : (lock l m wm wn wr ws : Bool) → wm ≡ wn → wr ≡ ws → (not lock || l && m) && (not wm || m) && (not wr || not m) ≡ true → (not lock || l && m) && (not wn || m) && (not ws || not m) ≡ true
suited_by lock l m wm wn wr ws p q h =
    let P : Bool → Type 0 = λ x. (not lock || l && m) && (not x || m) && (not ws || not m) ≡ true in
    let Q : Bool → Type 0 = λ x. (not lock || l && m) && (not wm || m) && (not x || not m) ≡ true in
    subst P p (subst Q q h)

-- A wide spelling of an operation.
pub record WideOf (op : Op) : Type 0 where
  pub bytes : List ℕ
  pub wide : IsWide op bytes

wide_of : (op : Op) (bytes : List ℕ) → IsWide op bytes → WideOf op
wide_of op bytes w = record { bytes = bytes; wide = w }

are_from : (bs : List ℕ) → Bytes bs → AllAreBytes bs
are_from bs f = All-from_get_or (λ b. b < 256) bs 0 f

bytes_from : (bs : List ℕ) → AllAreBytes bs → Bytes bs
bytes_from bs f k h = All-get_or (λ b. b < 256) bs k 0 h f

opcode_are : (o : ℕ) → IsOpcode o → AllAreBytes (opcode_bytes o)
opcode_are o (byte h p q) = rw (lt-ltb o 256 h) (All-cons (λ b. b < 256) o [] h (All-nil (λ b. b < 256)))
opcode_are o (pair h k) =
    let long : 256 ≤ o = omega arith in
    rw (le-ltb o 256 long) (All-cons (λ b. b < 256) 0x0f ((o - 0xf00) ∷ []) (omega arith) (All-cons (λ b. b < 256) (o - 0xf00) [] (omega arith) (All-nil (λ b. b < 256))))

-- the parts of a wide spelling make one
pub wide_by : (r : Row) (ps : List ℕ) (o mid : ℕ) (place : Option Arg) (tail : List ℕ) → Contains opcode_rows r → is_full r ≡ true → All (λ p. is_prefix p ≡ true) ps → AllAreBytes ps →
    (form : Whole (prefixes_of ps).seg mid place) → has_modrm r ≡ is_some place → Covers r (8 * o + mid) → suits r (prefixes_of ps).lock (is_memory place) ≡ true →
    length tail ≡ tail_length r (prefixes_of ps).narrow → Bytes tail →
    IsWide (operation r (fields_at ps o mid place) tail) (ps ++ (opcode_bytes o ++ (form.bytes ++ tail)))
wide_by r ps o mid place tail listed full prefixes are form wanted covered suited whole behind =
    let is : IsOpcode o = opcode_of_row o r (lawful_row opcode_rows r opcodes_lawful listed) (begins_from false o mid r (form_middle form.form) covered refl) in
    let P : ℕ → Type 0 = λ b. b < 256 in
    record {
      spells = record {
        row = r;
        listed = listed;
        prefixes = ps;
        opcode = o;
        modrm = form.bytes;
        tail = tail;
        parts = refl;
        are_bytes = All-append P ps _ are (All-append P (opcode_bytes o) _ (opcode_are o is) (All-append P form.bytes tail (are_from form.bytes form.are) (are_from tail behind)));
        are_prefixes = prefixes;
        middle = mid;
        place = place;
        form = form.form;
        wanted = wanted;
        covered = covered;
        suited = suited;
        whole = whole;
        spelled = refl;
      };
      full = full;
      displaced = form.displaced;
    }

module _ (op : Op) (bytes : List ℕ) (s : Spells op bytes) where
  all : AllAreBytes (s.prefixes ++ (opcode_bytes s.opcode ++ (s.modrm ++ s.tail)))
  all = let P : List ℕ → Type 0 = AllAreBytes in subst P s.parts s.are_bytes

  pub before : AllAreBytes s.prefixes
  before = front_bytes s.prefixes (opcode_bytes s.opcode ++ (s.modrm ++ s.tail)) all

  behind : AllAreBytes (s.modrm ++ s.tail)
  behind = back_bytes (opcode_bytes s.opcode) (s.modrm ++ s.tail) (back_bytes s.prefixes (opcode_bytes s.opcode ++ (s.modrm ++ s.tail)) all)

  pub tail_are : Bytes s.tail
  tail_are = bytes_from s.tail (back_bytes s.modrm s.tail behind)

  pub modrm_are : Bytes s.modrm
  modrm_are = bytes_from s.modrm (front_bytes s.modrm s.tail behind)

  whole_place : Whole (prefixes_of s.prefixes).seg s.middle s.place
  whole_place = form_whole (prefixes_of s.prefixes).seg s.modrm s.middle s.place modrm_are s.form

  -- by the same row
  same_row : is_full s.row ≡ true → WideOf op
  same_row full =
      let P : Op → Type 0 = WideOf in
      subst P (sym s.spelled) (wide_of _ _ (wide_by s.row s.prefixes s.opcode s.middle s.place s.tail s.listed full s.are_prefixes before whole_place s.wanted s.covered s.suited s.whole tail_are))

  -- by the row that has in full what this one has in fewer bytes
  other_row : Widens s.row → WideOf op
  unfolding tail_length
  other_row x =
      let o : ℕ = full_opcode (s.row.low / 8) in
      let w : Width = width_of s.row.size (prefixes_of s.prefixes).narrow in
      let f : Fields = fields_at s.prefixes s.opcode s.middle s.place in
      let g : Fields = fields_at s.prefixes o s.middle s.place in
      let t : Turned s.row f g w s.tail = turned s.row f g w s.tail x.turned tail_are refl refl refl in
      let same : full_opcode (s.row.high / 8) ≡ o = ap full_opcode (sym x.single) in
      let covered : Covers (full_row s.row) (8 * o + s.middle) = (omega (arith, s.covered.0, s.covered.1, x.single, form_middle s.form), omega (arith, same, s.covered.0, s.covered.1, x.single, form_middle s.form)) in
      let suited : suits (full_row s.row) (prefixes_of s.prefixes).lock (is_memory s.place) ≡ true =
      suited_by (prefixes_of s.prefixes).lock s.row.lock (is_memory s.place) (wants_memory s.row) (wants_memory (full_row s.row)) (wants_register s.row) (wants_register (full_row s.row)) x.memory x.register s.suited in
      let P : Op → Type 0 = WideOf in
      subst P (full_operation s.row s.prefixes s.opcode o s.middle s.place s.tail t ∙ sym s.spelled) (wide_of _ _ (wide_by (full_row s.row) s.prefixes o s.middle s.place t.bytes x.listed x.full s.are_prefixes before whole_place (sym x.modrm ∙ s.wanted) covered suited t.size t.are))

  pub widened : WideOf op
  widened = elim (cases_Bool (is_full s.row)) [ inl e ↦ same_row e | inr e ↦ other_row (widens s.row s.listed e) ]
