-- How jumps and calls to a target are spelled: by a row with the distance alone, and without a prefix in two bytes, or in full.
use Rattle.std.proofs.Common.{◌≡◌, ℕ, ◌+◌, ◌/◌, ◌≤◌, ◌⊎◌, inl, inr, Bool, true, false, List, [], ◌∷◌, ◌++◌, length, length-append, refl, sym, ◌∙◌, ap, arith, subst, rules, ◌&&◌, ◌||◌, not, nat_lt}
use Rattle.std.specs.Prelude.{Option, Some, None, is_some, option_to_list, slice_index, ◌==◌, if◌then◌else◌}
use Rattle.std.specs.List.{list_any, list_all, All, Contains}
use Rattle.std.proofs.lemmas.Bool.{and_parts, or_cases, cases_Bool, eqb-true, not-true, both_ways, lt-ltb, le-ltb}
use Rattle.std.proofs.lemmas.List.Sums.{AllPass-from_list_all}
use Rattle.std.proofs.lemmas.List.Elements.{All-contains}
use Rattle.std.proofs.lemmas.List.Folds.{list_any-append}
use Rattle.m386_base.proofs.Members.{contains_first}
use denote.Enum.Bare.{sameb, same_true}
use Rattle.m386_base.specs.declared.number.Width.{Width}
use Rattle.m386_base.specs.declared.number.Width.TheVariants.{W16, W32}
use Rattle.m386_opmap.specs.contracts.row.Size.{the_type as sizes}
use Rattle.m386_opmap.specs.declared.fields.Fields.{Fields}
use Rattle.m386_opmap.specs.declared.name.Name.{Name}
use Rattle.m386_opmap.specs.declared.op.Arg.{Arg}
use Rattle.m386_opmap.specs.declared.op.Op.{Op}
use Rattle.m386_opmap.specs.declared.row.Operand.{Operand}
use Rattle.m386_opmap.specs.declared.row.Operand.TheVariants.{Absent, E, M, R, G, S, Low, I, Ib, Iw, SignedByte, Jb, J, O, A, X, Table, Eax, Cl, Dx, One, Es, Cs, Ss, Ds, Fs, Gs, Cr0}
use Rattle.m386_opmap.specs.declared.row.Row.{Row}
use Rattle.m386_opmap.specs.declared.row.Size.{Size}
use Rattle.m386_opmap.specs.declared.row.Size.TheVariants.{Either}
use Rattle.m386_opmap.specs.Forms.{Form, absent, register, based, indexed}
use Rattle.m386_opmap.specs.Opcodes.{opcode_rows}
use Rattle.m386_opmap.specs.Operands.{operand_value, has_modrm, tail_length, operation, width_of}
use Rattle.m386_opmap.specs.Prefix.{is_prefix, prefixes_of}
use Rattle.m386_opmap.specs.Spelling.{Spells, opcode_bytes}
use Rattle.m386_opmap.proofs.Complete.{form_absent, form_middle}
use Rattle.m386_opmap.proofs.Lawful.{IsOpcode, byte, pair, begins_from, opcode_of_row, lawful_row, opcodes_lawful}
use Rattle.m386_encode.specs.Wide.{is_full, IsWide, HasWholeDisplacement}
use Rattle.m386_asm.specs.Jumps.{is_distance, full_length}

-- whether an operand of a row is a distance
abbrev is_reach : Operand → Bool
is_reach Jb = true
is_reach J = true
is_reach _ = false

abbrev reaches : Row → Bool
reaches r = is_reach r.first || (is_reach r.second || is_reach r.third)

-- how many bytes a spelling by a row has without prefixes and ModRM byte
abbrev pub bare_length : Row → ℕ
bare_length r = (if nat_lt r.high 2048 then 1 else 2) + tail_length r false

-- what a row with a distance is: of one opcode, without a ModRM byte, and as long as the name says, or 2
abbrev is_jump : Row → Bool
is_jump r =
    sameb sizes r.size Either && (not (has_modrm r) && ((r.low / 8 == r.high / 8)
    && ((bare_length r == 2 || is_full r) && (not (is_full r) || bare_length r == full_length r.name))))

all_jumps : list_all (λ r. not (reaches r) || is_jump r) opcode_rows ≡ true
unfolding tail_length
all_jumps = refl

implied : (a b : Bool) → a ≡ true → not a || b ≡ true → b ≡ true
implied true b e h = h
implied false b e h = cc

-- What a row with a distance is.
record Jump (r : Row) : Type 0 where
  pub size : r.size ≡ Either
  pub modrm : has_modrm r ≡ false
  pub single : r.low / 8 ≡ r.high / 8
  pub short : (bare_length r ≡ 2) ⊎ (is_full r ≡ true)
  pub full : is_full r ≡ true → bare_length r ≡ full_length r.name

jump : (r : Row) → Contains opcode_rows r → reaches r ≡ true → Jump r
jump r listed h =
    let is = implied (reaches r) (is_jump r) h (All-contains (λ x. not (reaches x) || is_jump x ≡ true) opcode_rows r (AllPass-from_list_all (λ x. not (reaches x) || is_jump x) opcode_rows all_jumps) listed) in
    let a = and_parts _ _ is in
    let b = and_parts _ _ a.1 in
    let c = and_parts _ _ b.1 in
    let d = and_parts (bare_length r == 2 || is_full r) (not (is_full r) || bare_length r == full_length r.name) c.1 in
    record {
      size = same_true sizes (search rules) r.size Either a.0;
      modrm = not-true (has_modrm r) b.0;
      single = eqb-true (r.low / 8) (r.high / 8) c.0;
      short = elim (or_cases (bare_length r == 2) (is_full r) d.0) [ inl e ↦ inl (eqb-true (bare_length r) 2 e) | inr e ↦ inr e ];
      full = λ e. eqb-true (bare_length r) (full_length r.name) (implied (is_full r) (bare_length r == full_length r.name) e d.1);
    }

-- ---- the row of an operation with a distance

abbrev in_option : Option Arg → Bool
in_option None = false
in_option (Some a) = is_distance a

none_placed : {seg : Option ℕ} {modrm : List ℕ} {mid : ℕ} {place : Option Arg} → Form seg modrm mid place → in_option place ≡ false
none_placed absent = refl
none_placed (register m h) = refl
none_placed (based m ds h k n) = refl
none_placed (indexed m s ds h k n) = refl

value_reaches : (f : Fields) (w : Width) (tail : List ℕ) (x : Operand) → in_option f.place ≡ false → in_option (operand_value f w tail x) ≡ is_reach x
value_reaches f w tail Absent h = refl
value_reaches f w tail E h = h
value_reaches f w tail M h = h
value_reaches f w tail R h = h
value_reaches f w tail G h = refl
value_reaches f w tail S h = refl
value_reaches f w tail Low h = refl
value_reaches f w tail I h = refl
value_reaches f w tail Ib h = refl
value_reaches f w tail Iw h = refl
value_reaches f w tail SignedByte h = refl
value_reaches f w tail Jb h = refl
value_reaches f w tail J h = refl
value_reaches f w tail O h = refl
value_reaches f w tail A h = refl
value_reaches f w tail X h = refl
value_reaches f w tail Table h = refl
value_reaches f w tail Eax h = refl
value_reaches f w tail Cl h = refl
value_reaches f w tail Dx h = refl
value_reaches f w tail One h = refl
value_reaches f w tail Es h = refl
value_reaches f w tail Cs h = refl
value_reaches f w tail Ss h = refl
value_reaches f w tail Ds h = refl
value_reaches f w tail Fs h = refl
value_reaches f w tail Gs h = refl
value_reaches f w tail Cr0 h = refl

or_none : (x : Bool) → x || false ≡ x
or_none true = refl
or_none false = refl

any_listed : (a : Option Arg) → list_any is_distance (option_to_list a) ≡ in_option a
any_listed None = refl
any_listed (Some a) = or_none (is_distance a)

or_again : (x y z : Bool) → (x || y) || z ≡ x || (y || z)
or_again true y z = refl
or_again false y z = refl

any_of : (a b c : Option Arg) (x y z : Bool) → in_option a ≡ x → in_option b ≡ y → in_option c ≡ z → list_any is_distance (option_to_list a ++ option_to_list b ++ option_to_list c) ≡ x || (y || z)
any_of a b c x y z p q t =
    list_any-append is_distance (option_to_list a ++ option_to_list b) (option_to_list c)
    ∙ rw (list_any-append is_distance (option_to_list a) (option_to_list b), any_listed a, any_listed b, any_listed c, p, q, t) (or_again x y z)

reaches_by : (r : Row) (f : Fields) (tail : List ℕ) → in_option f.place ≡ false → list_any is_distance (operation r f tail).args.items ≡ reaches r
unfolding operation
reaches_by r f tail h =
    let w : Width = width_of r.size f.prefixes.narrow in
    any_of (operand_value f w tail r.first) (operand_value f w tail r.second) (operand_value f w tail r.third) (is_reach r.first) (is_reach r.second) (is_reach r.third) (value_reaches f w tail r.first h) (value_reaches f w tail r.second h) (value_reaches f w tail r.third h)

-- ---- its bytes

opcode_length : (o high : ℕ) → high / 8 ≡ o → length (opcode_bytes o) ≡ (if nat_lt high 2048 then 1 else 2)
opcode_length o high e =
    elim (cases_Bool (nat_lt high 2048)) [
      | inl h ↦ grind (arith, e, h)
      | inr h ↦ grind (arith, e, h)
    ]

narrow_by : (size : Size) (narrow : Bool) (w : Width) → size ≡ Either → w ≡ width_of size narrow → w ≡ W32 → narrow ≡ false
narrow_by size true w e d h = let P : Size → Type 0 = λ x. w ≡ width_of x true in let is : w ≡ W16 = subst P e d in cc
narrow_by size false w e d h = refl

wide_by : (size : Size) (narrow : Bool) (w : Width) → size ≡ Either → w ≡ width_of size narrow → narrow ≡ false → w ≡ W32
wide_by size narrow w e d h = d ∙ ap (λ x. width_of x narrow) e ∙ rw h refl

first_of : (ps more : List ℕ) → All (λ p. is_prefix p ≡ true) ps → is_prefix (slice_index (ps ++ more) 0) ≡ false → ps ≡ []
first_of [] more all h = refl
first_of (p ∷ ps) more all h = let is : is_prefix p ≡ true = All-contains (λ x. is_prefix x ≡ true) (p ∷ ps) p all (contains_first p ps) in absurd (both_ways (is_prefix p) h is)

none_said : (ps : List ℕ) → ps ≡ [] → (prefixes_of ps).narrow ≡ false
unfolding prefixes_of
none_said ps e = rw e refl

opcode_front : (o : ℕ) (more : List ℕ) → IsOpcode o → is_prefix (slice_index (opcode_bytes o ++ more) 0) ≡ false
unfolding is_prefix
opcode_front o more (byte h p q) = rw (lt-ltb o 256 h) p
opcode_front o more (pair h k) = let long : 256 ≤ o = omega arith in rw (le-ltb o 256 long) refl

no_length : (ps : List ℕ) → length ps ≡ 0 → ps ≡ []
no_length [] e = refl
no_length (p ∷ ps) e = cc

displaced_by : {seg : Option ℕ} {modrm : List ℕ} {mid : ℕ} {place : Option Arg} → is_some place ≡ false → (form : Form seg modrm mid place) → HasWholeDisplacement form
displaced_by e absent = tt
displaced_by e (register m h) = tt
displaced_by e (based m ds h k n) = cc
displaced_by e (indexed m s ds h k n) = cc

pub full_long : (n : Name) → 2 ≤ full_length n
full_long n = omega (arith, full_is n)
  where
    full_is : (m : Name) → (full_length m ≡ 2) ⊎ ((full_length m ≡ 5) ⊎ (full_length m ≡ 6))
    full_is m = search rules

-- A spelling of an operation with a distance.
module _ (op : Op) (bytes : List ℕ) (s : Spells op bytes) (h : list_any is_distance op.args.items ≡ true) where
  row_reaches : reaches s.row ≡ true
  row_reaches =
      sym (reaches_by s.row (record { prefixes = prefixes_of s.prefixes; opcode = s.opcode; middle = s.middle; place = s.place }) s.tail (none_placed s.form))
      ∙ sym (ap (λ (x : Op). list_any is_distance x.args.items) s.spelled) ∙ h

  row : Jump s.row
  row = jump s.row s.listed row_reaches

  -- it has no ModRM byte
  nothing : is_some s.place ≡ false
  nothing = sym s.wanted ∙ row.modrm

  width_is : op.width ≡ width_of s.row.size (prefixes_of s.prefixes).narrow
  unfolding operation
  width_is = ap (λ (x : Op). x.width) s.spelled

  name_is : op.name ≡ s.row.name
  unfolding operation
  name_is = ap (λ (x : Op). x.name) s.spelled

  opcode_is : IsOpcode s.opcode
  opcode_is = opcode_of_row s.opcode s.row (lawful_row opcode_rows s.row opcodes_lawful s.listed) (begins_from false s.opcode s.middle s.row (form_middle s.form) s.covered refl)

  -- so many bytes behind the prefixes, where the operation has 32 bits
  sized : op.width ≡ W32 → length bytes ≡ length s.prefixes + bare_length s.row
  sized w =
      let narrow = narrow_by s.row.size (prefixes_of s.prefixes).narrow op.width row.size width_is w in
      let none = form_absent s.form nothing in
      let T : Bool → Type 0 = λ x. length s.tail ≡ tail_length s.row x in
      let tail : length s.tail ≡ tail_length s.row false = subst T narrow s.whole in
      let key = opcode_length s.opcode s.row.high (omega (arith, row.single, s.covered, form_middle s.form)) in
      omega (arith, ap length s.parts, length-append s.prefixes (opcode_bytes s.opcode ++ (s.modrm ++ s.tail)), length-append (opcode_bytes s.opcode) (s.modrm ++ s.tail), length-append s.modrm s.tail, ap length none.0, tail, key)

  -- without a prefix before it
  bare_prefixes : is_prefix (slice_index bytes 0) ≡ false → s.prefixes ≡ []
  bare_prefixes bare =
      let P : List ℕ → Type 0 = λ x. is_prefix (slice_index x 0) ≡ false in
      first_of s.prefixes (opcode_bytes s.opcode ++ (s.modrm ++ s.tail)) s.are_prefixes (subst P s.parts bare)

  bare_by : s.prefixes ≡ [] → is_prefix (slice_index bytes 0) ≡ false
  bare_by e =
      let P : List ℕ → Type 0 = λ x. is_prefix (slice_index x 0) ≡ false in
      let Q : List ℕ → Type 0 = λ x. is_prefix (slice_index (x ++ (opcode_bytes s.opcode ++ (s.modrm ++ s.tail))) 0) ≡ false in
      subst P (sym s.parts) (subst Q (sym e) (opcode_front s.opcode (s.modrm ++ s.tail) opcode_is))

  -- a spelling without a prefix is of 32 bits
  pub bare_width : is_prefix (slice_index bytes 0) ≡ false → op.width ≡ W32
  bare_width bare = wide_by s.row.size (prefixes_of s.prefixes).narrow op.width row.size width_is (none_said s.prefixes (bare_prefixes bare))

  -- and has the length of its row
  bare_sized : is_prefix (slice_index bytes 0) ≡ false → length bytes ≡ bare_length s.row
  bare_sized bare = omega (arith, sized (bare_width bare), ap length (bare_prefixes bare))

  full_sized : is_full s.row ≡ true → bare_length s.row ≡ full_length op.name
  full_sized full = row.full full ∙ ap full_length (sym name_is)

  -- two bytes, or a wide spelling of the length of its name
  pub bare_length_is : is_prefix (slice_index bytes 0) ≡ false → (length bytes ≡ 2) ⊎ ((length bytes ≡ full_length op.name) × IsWide op bytes)
  bare_length_is bare =
      elim row.short [
        | inl e ↦ inl (bare_sized bare ∙ e)
        | inr full ↦ inr (bare_sized bare ∙ full_sized full, record { spells = s; full = full; displaced = displaced_by nothing s.form })
      ]

  -- a wide one has the length of its name
  pub bare_full : is_prefix (slice_index bytes 0) ≡ false → is_full s.row ≡ true → length bytes ≡ full_length op.name
  bare_full bare full = bare_sized bare ∙ full_sized full

  -- as many bytes behind the prefixes as a wide spelling has
  pub wide_sized : op.width ≡ W32 → is_full s.row ≡ true → length bytes ≡ length s.prefixes + full_length op.name
  wide_sized w full = sized w ∙ ap (λ n. length s.prefixes + n) (full_sized full)

  pub least_sized : op.width ≡ W32 → length s.prefixes + 2 ≤ length bytes
  least_sized w = omega (arith, sized w, long)
    where
      long : 2 ≤ bare_length s.row
      long = elim row.short [ inl e ↦ omega (arith, e) | inr full ↦ (let name = full_long s.row.name in omega (arith, row.full full, name)) ]

  pub bare_least : op.width ≡ W32 → length bytes ≤ 2 → (length bytes ≡ 2) × (is_prefix (slice_index bytes 0) ≡ false)
  bare_least w few =
      let least = least_sized w in
      (omega (arith, least, few), bare_by (no_length s.prefixes (omega (arith, least, few))))

  pub bare_wide : op.width ≡ W32 → is_full s.row ≡ true → length bytes ≤ full_length op.name → (length bytes ≡ full_length op.name) × (is_prefix (slice_index bytes 0) ≡ false)
  bare_wide w full few =
      let is = wide_sized w full in
      (omega (arith, is, few), bare_by (no_length s.prefixes (omega (arith, is, few))))
