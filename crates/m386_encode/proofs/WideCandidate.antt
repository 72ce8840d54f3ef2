-- A candidate of a full row with a displacement of four bytes is wide, where it spells the operation.
use Rattle.std.proofs.Common.{◌≡◌, ℕ, zero, suc, ◌+◌, ◌*◌, ◌/◌, ◌%◌, ◌<◌, ◌≤◌, ◌⊎◌, inl, inr, Bool, true, false, cond, List, [], ◌∷◌, ◌++◌, get_or, refl, sym, ◌∙◌, ap, arith, subst, ◌&&◌, ◌||◌, not, append_assoc}
use Rattle.std.specs.Prelude.{Option, Some, None, is_some, ◌==◌}
use Rattle.std.specs.List.{All, Contains, list_all}
use Rattle.std.proofs.lemmas.Bool.{and_parts, or_cases, cases_Bool, eqb-true, eq-eqb, and_from}
use Rattle.std.proofs.lemmas.Bool.Decides.{nat_tests}
use Rattle.std.proofs.lemmas.List.Sums.{AllPass-from_list_all}
use Rattle.std.proofs.lemmas.List.Elements.{All-contains}
use Rattle.m386_base.specs.declared.number.Width.{Width}
use Rattle.m386_opmap.specs.declared.fields.Fields.{Fields}
use Rattle.m386_opmap.specs.declared.op.Addr.{Addr}
use Rattle.m386_opmap.specs.declared.op.Arg.{Arg}
use Rattle.m386_opmap.specs.declared.op.Arg.TheVariants.{Reg, Seg, Imm, Mem, Rel, Far}
use Rattle.m386_opmap.specs.declared.op.Arg.TheVariants as args
use Rattle.m386_opmap.specs.declared.op.Op.{Op}
use Rattle.m386_opmap.specs.declared.name.Name.TheVariants.{Nop}
use Rattle.m386_opmap.specs.declared.row.Operand.TheVariants.{Absent}
use Rattle.m386_opmap.specs.declared.row.Row.{Row}
use Rattle.m386_opmap.specs.declared.row.Size.TheVariants.{Double}
use Rattle.m386_opmap.specs.Forms.{Form, absent, register, based, indexed, top_bits, low, displacement_length, base_of}
use Rattle.m386_opmap.specs.Opcodes.{opcode_rows}
use Rattle.m386_opmap.specs.Operands.{has_modrm, operation, width_of}
use Rattle.m386_opmap.specs.Prefix.{is_prefix, prefixes_of}
use Rattle.m386_opmap.specs.Rows.{begins, covers_key, row_at}
use Rattle.m386_opmap.specs.Spelling.{Spells, opcode_bytes}
use Rattle.m386_opmap.proofs.Complete.{form_middle}
use Rattle.m386_opmap.proofs.Lawful.{IsOpcode, byte, opcodes_lawful, lawful_row, selected, begins_from, begins_like, begins_is_begun, opcode_of_row}
use Rattle.m386_opmap.proofs.OneRow.{Same, same_parts}
use Rattle.m386_opmap.proofs.Outcomes.{fields_at}
use Rattle.m386_opmap.proofs.Table.{rising_bounds, one_covers_opcode, found_is}
use Rattle.m386_encode.specs.Candidates.{candidate, prefixes, named_segment, key_bytes, opcode, middle_of, register as number_of, is_low, is_middle, is_place, mode_of, base, address_bytes, place_bytes, form_bytes, tail_bytes}
use Rattle.m386_encode.specs.Wide.{is_full, HasWholeDisplacement, IsWide}
use Rattle.m386_encode.proofs.Fuller.{alike, alike_true}
use Rattle.m386_encode.proofs.Marks.{IsSegment}
use Rattle.m386_encode.proofs.Named.{operands, seg_either, said_is}
use Rattle.m386_encode.proofs.Octets.{base_small, mode_small}
use Rattle.m386_encode.proofs.Reduced.{passing, number_of_opcode}
use Rattle.m386_encode.proofs.RowParts.{Shaped, has_shape}
use Rattle.m386_encode.proofs.Taken.{some_place, place_taken}
use Rattle.m386_encode.proofs.Whole.{key_bytes_are}

-- the bytes of what a ModRM byte names, if there is one
abbrev placed : ℕ → Option Arg → List ℕ
placed m None = []
placed m (Some p) = place_bytes m 2 p

first_by : (c : Bool) (y z u x : ℕ) (more xs ys : List ℕ) → (cond c (y ∷ []) (z ∷ u ∷ []) ++ more) ++ xs ≡ x ∷ ys → (x ≡ y) ⊎ (x ≡ z)
first_by true y z u x more xs ys e = inl cc
first_by false y z u x more xs ys e = inr cc

-- the top bits of the first byte of an address are the mode
first_top : (m x : ℕ) (a : Addr) (more xs ys : List ℕ) → m < 8 → (address_bytes m 2 a ++ more) ++ xs ≡ x ∷ ys → top_bits x ≡ mode_of a.base 2
unfolding address_bytes
first_top m x a more xs ys h e =
    let b = base_small a.base in
    let k = mode_small a.base 2 in
    elim (first_by _ (64 * mode_of a.base 2 + 8 * m + base a.base) (64 * mode_of a.base 2 + 8 * m + 4) _ x more xs ys e) [
      | inl i ↦ omega (arith, i, b, h)
      | inr i ↦ omega (arith, i, h)
    ]

sizes_by : (a b c : Bool) (t n : ℕ) → (a ≡ true → t ≡ 0) → (c ≡ true → t ≡ 1) → t ≡ mode_of (cond (a && b) None (Some n)) 2 → cond a (cond b 4 0) (cond c 1 4) ≡ cond true 4 zero
sizes_by true true c t n f g h = refl
sizes_by true false c t n f g h = absurd (omega (arith, f refl, h))
sizes_by false b true t n f g h = absurd (omega (arith, g refl, h))
sizes_by false b false t n f g h = refl

-- a displacement by mode 2, or without a base, has four bytes
four : (t b : ℕ) → t ≡ mode_of (base_of t b) 2 → displacement_length t b ≡ 4
four t b h = sizes_by (t == 0) (b == 5) (t == 1) t b (eqb-true t 0) (eqb-true t 1) h

displaced : (seg : Option ℕ) (bs : List ℕ) (mid : ℕ) (place : Option Arg) (m : ℕ) (xs ys : List ℕ) → m < 8 → placed m place ++ xs ≡ bs ++ ys → (form : Form seg bs mid place) → HasWholeDisplacement form
unfolding place_bytes
displaced seg _ _ _ m xs ys h e absent = tt
displaced seg _ _ _ m xs ys h e (register n t) = tt
displaced seg _ _ _ m xs ys h e (based n ds t k l) = l ∙ four (top_bits n) (low n) (first_top m n _ _ xs (ds ++ ys) h e)
displaced seg _ _ _ m xs ys h e (indexed n s ds t k l) = l ∙ four (top_bits n) (low s) (first_top m n _ _ xs (s ∷ (ds ++ ys)) h e)

displaced_absent : (seg : Option ℕ) (bs : List ℕ) (mid : ℕ) (place : Option Arg) → is_some place ≡ false → (form : Form seg bs mid place) → HasWholeDisplacement form
displaced_absent seg _ _ _ h absent = tt
displaced_absent seg _ _ _ h (register n t) = tt
displaced_absent seg _ _ _ h (based n ds t k l) = cc
displaced_absent seg _ _ _ h (indexed n s ds t k l) = cc

number_small : (a : Arg) → number_of a < 8
number_small (Reg n) = omega arith
number_small (Seg n) = omega arith
number_small args.Cr0 = omega arith
number_small (Imm n) = omega arith
number_small (Mem a) = omega arith
number_small (Rel n) = omega arith
number_small (Far s o) = omega arith

middle_by : (a b : Bool) (i j k : ℕ) → i < 8 → j < 8 → k < 8 → cond a i (cond b j k) < 8
middle_by true b i j k h g f = h
middle_by false true i j k h g f = g
middle_by false false i j k h g f = f

middle_small : (r : Row) (xs : List Arg) → middle_of r xs < 8
unfolding middle_of
middle_small r xs = middle_by (is_middle r.first) (is_middle r.second) _ _ _ (number_small (get_or xs 0 args.Cr0)) (number_small (get_or xs 1 args.Cr0)) (omega arith)

-- the opcodes of a row whose operand stands in them: eight, or but the first, which is NOP
abbrev is_spread : Row → Bool
is_spread r = not (is_low r.first || is_low r.second) || (r.low / 64 == r.high / 64) && ((r.high % 64 == 63) && ((r.low % 64 == 0) || (r.low == 0x488)))

all_spread : list_all is_spread opcode_rows ≡ true
all_spread = refl

-- the opcode by an operand in it, or without one
opcode_by : (a b : Bool) (k i j l : ℕ) → i < 8 → j < 8 → (a || b ≡ false → cond a (k + i) (cond b (k + j) l) ≡ l) × (a || b ≡ true → (n : ℕ) × (n < 8) × (cond a (k + i) (cond b (k + j) l) ≡ k + n))
opcode_by true b k i j l h g = ((λ e. cc), (λ e. (i, h, refl)))
opcode_by false true k i j l h g = ((λ e. cc), (λ e. (j, g, refl)))
opcode_by false false k i j l h g = ((λ e. refl), (λ e. cc))

begins_at : (o : ℕ) (r : Row) → r.low ≤ 8 * o + 7 → 8 * o ≤ r.high → begins false o r ≡ true
begins_at o r h k = grind (arith, nat_tests)

no_not : (a b : Bool) → a ≡ true → not a || b ≡ true → b ≡ true
no_not true b e h = h
no_not false b e h = cc

spread_opcode : (l h n o : ℕ) → l / 64 ≡ h / 64 → h % 64 ≡ 63 → (l % 64 ≡ 0) ⊎ (l ≡ 0x488) → n < 8 → o ≡ l / 64 * 8 + n → ((l ≤ 8 * o + 7) × (8 * o ≤ h)) ⊎ (o ≡ 0x90)
spread_opcode l h n o p q (inl z) k e = inl (omega (arith, p, q, z, k, e), omega (arith, p, q, z, k, e))
spread_opcode l h zero o p q (inr z) k e = inr (omega (arith, z, e))
spread_opcode l h (suc n) o p q (inr z) k e = inl (omega (arith, p, q, z, k, e), omega (arith, p, q, z, k, e))

-- The opcode of a row's candidate is one of the row's, or that of NOP.
opcode_stands : (r : Row) (xs : List Arg) → Contains opcode_rows r → (begins false (opcode r xs) r ≡ true) ⊎ (opcode r xs ≡ 0x90)
unfolding opcode
opcode_stands r xs c =
    let low : Bool = is_low r.first || is_low r.second in
    let by = opcode_by (is_low r.first) (is_low r.second) (r.low / 64 * 8) (number_of (get_or xs 0 args.Cr0)) (number_of (get_or xs 1 args.Cr0)) (r.low / 8) (number_small (get_or xs 0 args.Cr0)) (number_small (get_or xs 1 args.Cr0)) in
    let bounds = rising_bounds 0 opcode_rows r refl c in
    let spread = All-contains (λ x. is_spread x ≡ true) opcode_rows r (AllPass-from_list_all is_spread opcode_rows all_spread) c in
    elim (cases_Bool low) [
      | inr e ↦ (let o = by.0 e in inl (begins_at _ r (omega (arith, o)) (omega (arith, o, bounds.1))))
      | inl e ↦ (let o = by.1 e in
          let rest = no_not low ((r.low / 64 == r.high / 64) && ((r.high % 64 == 63) && ((r.low % 64 == 0) || (r.low == 0x488)))) e spread in
          let a = and_parts (r.low / 64 == r.high / 64) ((r.high % 64 == 63) && ((r.low % 64 == 0) || (r.low == 0x488))) rest in
          let b = and_parts (r.high % 64 == 63) ((r.low % 64 == 0) || (r.low == 0x488)) a.1 in
          let from : (r.low % 64 ≡ 0) ⊎ (r.low ≡ 0x488) = elim (or_cases (r.low % 64 == 0) (r.low == 0x488) b.1) [ inl z ↦ inl (eqb-true (r.low % 64) 0 z) | inr z ↦ inr (eqb-true r.low 0x488 z) ] in
          elim (spread_opcode r.low r.high o.0 _ (eqb-true (r.low / 64) (r.high / 64) a.0) (eqb-true (r.high % 64) 63 b.0) from o.1 o.2) [ inl z ↦ inl (begins_at _ r z.0 z.1) | inr z ↦ inr z ])
    ]

-- whether rows of one opcode with a ModRM byte are alike
abbrev is_like : Row → Row → Bool
is_like r t =
    not ((r.low / 8 == t.low / 8) && (has_modrm r && has_modrm t))
    || ((not (is_full r) || is_full t) && (alike (is_place r.first) (is_place t.first) && alike (is_place r.second) (is_place t.second)))

all_like : list_all (λ r. list_all (is_like r) opcode_rows) opcode_rows ≡ true
all_like = refl

-- full too, with the operand that the ModRM byte names in the same place
record IsLike (r t : Row) : Type 0 where
  pub full : is_full t ≡ true
  pub first : is_place r.first ≡ is_place t.first
  pub second : is_place r.second ≡ is_place t.second

like : (r t : Row) → Contains opcode_rows r → Contains opcode_rows t → r.low / 8 ≡ t.low / 8 → has_modrm r ≡ true → has_modrm t ≡ true → is_full r ≡ true → IsLike r t
like r t c d o h k full =
    let row = All-contains (λ x. list_all (is_like x) opcode_rows ≡ true) opcode_rows r (AllPass-from_list_all (λ x. list_all (is_like x) opcode_rows) opcode_rows all_like) c in
    let both = All-contains (λ x. is_like r x ≡ true) opcode_rows t (AllPass-from_list_all (is_like r) opcode_rows row) d in
    let rest = no_not ((r.low / 8 == t.low / 8) && (has_modrm r && has_modrm t)) ((not (is_full r) || is_full t) && (alike (is_place r.first) (is_place t.first) && alike (is_place r.second) (is_place t.second)))
    (and_from (r.low / 8 == t.low / 8) (has_modrm r && has_modrm t) (eq-eqb (r.low / 8) (t.low / 8) o) (and_from (has_modrm r) (has_modrm t) h k)) both in
    let a = and_parts (not (is_full r) || is_full t) (alike (is_place r.first) (is_place t.first) && alike (is_place r.second) (is_place t.second)) rest in
    let b = and_parts (alike (is_place r.first) (is_place t.first)) (alike (is_place r.second) (is_place t.second)) a.1 in
    record { full = no_not (is_full r) (is_full t) full a.0; first = alike_true (is_place r.first) (is_place t.first) b.0; second = alike_true (is_place r.second) (is_place t.second) b.1 }

-- the row of NOP
abbrev nop : Row
nop = record { low = 0x480; high = 0x487; name = Nop; size = Double; first = Absent; second = Absent; third = Absent; lock = false; newer = false }

nop_listed : Contains opcode_rows nop
unfolding row_at
nop_listed = (found_is (covers_key 0x480) opcode_rows nop refl).listed

-- one opcode, in which rows with a ModRM byte lie
one_opcode : (r : Row) (o : ℕ) → Contains opcode_rows r → has_modrm r ≡ true → begins false o r ≡ true → r.low / 8 ≡ o
one_opcode r o c h b =
    let p = and_parts _ _ (selected r (lawful_row opcode_rows r opcodes_lawful c) h) in
    let e = eqb-true (r.low / 8) (r.high / 8) p.0 in
    let i = begins_is_begun false o r b in
    omega (arith, e, i.low, i.high)

module _ (op : Op) (r : Row) (narrow : Bool) (listed : Contains opcode_rows r) (full : is_full r ≡ true) (s : Spells op (candidate op r narrow 2)) where
  shape : Shaped s.row
  shape = has_shape s.row s.listed

  -- the operands, as the spelling has them
  abbrev xs : List Arg
  xs = operands s.row s.prefixes s.opcode s.modrm s.tail s.middle s.place s.listed shape s.form s.wanted

  xs_are : op.args.items ≡ xs
  unfolding operation
  xs_are = ap (λ (x : Op). x.args.items) s.spelled

  segment_is : IsSegment (named_segment op.args.items)
  segment_is =
      let P : List Arg → Type 0 = λ x. IsSegment (named_segment x) in
      subst P (sym xs_are) (seg_either s.row s.prefixes s.opcode s.modrm s.tail s.middle s.place s.listed shape s.form s.wanted IsSegment tt (said_is s.prefixes))

  abbrev o : ℕ
  o = opcode r op.args.items

  abbrev behind : List ℕ
  behind = form_bytes r 2 op.args.items ++ tail_bytes r op.width op.args.items

  prefixes_are : All (λ b. is_prefix b ≡ true) (prefixes op narrow)
  unfolding prefixes
  prefixes_are = (passing (named_segment op.args.items) narrow op.lock op.rep segment_is).prefixes

  its_opcode : IsOpcode s.opcode
  its_opcode = opcode_of_row s.opcode s.row (lawful_row opcode_rows s.row opcodes_lawful s.listed) (begins_from false s.opcode s.middle s.row (form_middle s.form) s.covered refl)

  same : IsOpcode o → Same o s.opcode behind (s.modrm ++ s.tail)
  unfolding candidate
  same is =
      let key = key_bytes_are o (number_of_opcode o is) in
      let joined : candidate op r narrow 2 ≡ prefixes op narrow ++ (opcode_bytes o ++ behind) =
      append_assoc (prefixes op narrow ++ key_bytes o) (form_bytes r 2 op.args.items) (tail_bytes r op.width op.args.items) ∙ append_assoc (prefixes op narrow) (key_bytes o) behind ∙ ap (λ k. prefixes op narrow ++ (k ++ behind)) key in
      same_parts (prefixes op narrow) s.prefixes o s.opcode behind (s.modrm ++ s.tail) prefixes_are s.are_prefixes is its_opcode (sym joined ∙ s.parts)

  -- without a ModRM byte
  wide_without : has_modrm s.row ≡ false → is_full s.row ≡ true → IsWide op (candidate op r narrow 2)
  wide_without without f = record { spells = s; full = f; displaced = displaced_absent (prefixes_of s.prefixes).seg s.modrm s.middle s.place (sym s.wanted ∙ without) s.form }

  -- with one
  wide_with : has_modrm s.row ≡ true → IsLike r s.row → behind ≡ s.modrm ++ s.tail → IsWide op (candidate op r narrow 2)
  unfolding form_bytes
  wide_with with k e =
      let at = some_place s.place (sym s.wanted ∙ with) in
      let m : ℕ = middle_of r op.args.items in
      let small : m < 8 = middle_small r op.args.items in
      let f : Fields = fields_at s.prefixes s.opcode s.middle s.place in
      let w : Width = width_of s.row.size (prefixes_of s.prefixes).narrow in
      let taken = place_taken f w s.tail s.row shape.placed s.wanted (λ a. place_bytes m 2 a) [] at.0 at.1 with in
      let P : List Arg → Type 0 = λ x. cond (is_place s.row.first) (place_bytes m 2 (get_or x 0 args.Cr0)) (cond (is_place s.row.second) (place_bytes m 2 (get_or x 1 args.Cr0)) []) ≡ place_bytes m 2 at.0 in
      let mine : cond (is_place s.row.first) (place_bytes m 2 (get_or op.args.items 0 args.Cr0)) (cond (is_place s.row.second) (place_bytes m 2 (get_or op.args.items 1 args.Cr0)) []) ≡ place_bytes m 2 at.0 = subst P (sym xs_are) taken in
      let Q : Bool → Type 0 = λ b. cond b (place_bytes m 2 (get_or op.args.items 0 args.Cr0)) (cond (is_place s.row.second) (place_bytes m 2 (get_or op.args.items 1 args.Cr0)) []) ≡ place_bytes m 2 at.0 in
      let R : Bool → Type 0 = λ b. cond (is_place r.first) (place_bytes m 2 (get_or op.args.items 0 args.Cr0)) (cond b (place_bytes m 2 (get_or op.args.items 1 args.Cr0)) []) ≡ place_bytes m 2 at.0 in
      let bytes : form_bytes r 2 op.args.items ≡ place_bytes m 2 at.0 = subst R (sym k.second) (subst Q (sym k.first) mine) in
      let is : placed m s.place ≡ place_bytes m 2 at.0 = ap (placed m) at.1 in
      record {
        spells = s;
        full = k.full;
        displaced = displaced (prefixes_of s.prefixes).seg s.modrm s.middle s.place m (tail_bytes r op.width op.args.items) s.tail small (ap (λ x. x ++ tail_bytes r op.width op.args.items) (is ∙ sym bytes) ∙ e) s.form;
      }

  wide_begun : begins false o r ≡ true → IsWide op (candidate op r narrow 2)
  wide_begun b =
      let same = same (opcode_of_row o r (lawful_row opcode_rows r opcodes_lawful listed) b) in
      let B : ℕ → Type 0 = λ x. begins false x r ≡ true in
      let like_row = begins_like opcode_rows false s.opcode s.middle s.row r opcodes_lawful s.listed listed (form_middle s.form) s.covered (subst B same.opcode b) in
      elim (cases_Bool (has_modrm s.row)) [
        | inr e ↦ (let F : Row → Type 0 = λ x. is_full x ≡ true in wide_without e (subst F (like_row.same e) full))
        | inl e ↦ (let with : has_modrm r ≡ true = like_row.alike ∙ e in
            let mine = one_opcode r o listed with b in
            let its = one_opcode s.row s.opcode s.listed e (begins_from false s.opcode s.middle s.row (form_middle s.form) s.covered refl) in
            wide_with e (like r s.row listed s.listed (mine ∙ same.opcode ∙ sym its) with e full) same.behind)
      ]

  wide_nop : o ≡ 0x90 → IsWide op (candidate op r narrow 2)
  unfolding is_prefix
  wide_nop e =
      let P : ℕ → Type 0 = IsOpcode in
      let is : IsOpcode 0x90 = byte (omega arith) refl refl in
      let same = same (subst P (sym e) is) in
      let bits = form_middle s.form in
      let row : nop ≡ s.row = one_covers_opcode nop s.row (8 * s.opcode + s.middle) nop_listed s.listed (omega (arith, same.opcode, e, bits), omega (arith, same.opcode, e, bits)) s.covered in
      let F : Row → Type 0 = λ x. is_full x ≡ true in
      wide_without (sym (ap has_modrm row)) (subst F row refl)

  pub wide_candidate : IsWide op (candidate op r narrow 2)
  wide_candidate = elim (opcode_stands r op.args.items listed) [ inl b ↦ wide_begun b | inr e ↦ wide_nop e ]
