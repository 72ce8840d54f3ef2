-- The shortest wide spellings of operations that differ in their numbers alone are equally long.
use Rattle.std.proofs.Common.{◌≡◌, ℕ, ◌+◌, ◌-◌, ◌<◌, ◌≤◌, inl, inr, Bool, true, false, cond, List, [], ◌∷◌, ◌++◌, length, length-append, map, refl, sym, ◌∙◌, ap, arith, subst, ◌&&◌, ◌||◌, not, nat_lt}
use Rattle.std.specs.Prelude.{Option, Some, None, option_map, option_to_list, slice_index, ◌==◌}
use Rattle.std.specs.List.{All}
use Rattle.std.proofs.lemmas.Bool.{and_parts, cases_Bool, not-true, ltb-false}
use Rattle.std.proofs.lemmas.List.Elements.{All-nil, All-cons, All-append, All-head, All-tail}
use Rattle.m386_base.specs.declared.number.Width.{Width}
use Rattle.m386_opmap.specs.declared.fields.Fields.{Fields}
use Rattle.m386_opmap.specs.declared.fields.Prefixes.{Prefixes}
use Rattle.m386_opmap.specs.declared.op.Arg.{Arg}
use Rattle.m386_opmap.specs.declared.op.Op.{Op}
use Rattle.m386_opmap.specs.declared.name.Name.{Name}
use Rattle.m386_opmap.specs.declared.row.Operand.{Operand}
use Rattle.m386_opmap.specs.declared.row.Operand.TheVariants.{Absent, E, M, R, G, S, Low, I, Ib, Iw, SignedByte, Jb, J, O, A, X, Table, Eax, Cl, Dx, One, Es, Cs, Ss, Ds, Fs, Gs, Cr0}
use Rattle.m386_opmap.specs.declared.row.Row.{Row}
use Rattle.m386_opmap.specs.Operands.{operand_value, operand_length, suits, is_memory, tail_length, operation, width_of}
use Rattle.m386_opmap.specs.Prefix.{is_prefix, prefixes_of}
use Rattle.m386_opmap.specs.Spelling.{Spells, opcode_bytes}
use Rattle.m386_opmap.proofs.Outcomes.{fields_at}
use Rattle.m386_encode.specs.Candidates.{is_place, is_middle, is_low}
use Rattle.m386_encode.specs.Order.{is_before, is_less}
use Rattle.m386_encode.specs.Renumbered.{blank, IsRenumbered, KeepsLength}
use Rattle.m386_encode.specs.Wide.{is_brief, is_full, HasWholeDisplacement, IsShortestWide, IsWide}
use Rattle.m386_encode.proofs.AlikeRows.{IsAmong, Like, kind_of, like_among, like_rows, one_place}
use Rattle.m386_encode.proofs.AlikeTails.{Again, Drawn, Draws, IsPlace, IsSmall, Known, Split, TailFor, drawn_by, drawn_small, form_again, grouped, is_own, named_place, own_again, fixed_again, offset_for, same_memory, same_presence, sort, split_alike, value_again}
use Rattle.m386_encode.proofs.InFull.{Whole}
use Rattle.m386_encode.proofs.RowParts.{is_tail, has_one_tail, has_shape, place_said}
use Rattle.m386_encode.proofs.Tails.{items}
use Rattle.m386_encode.proofs.Values.{Bytes, is_plain}
use Rattle.m386_encode.proofs.Read.{same_fields}
use Rattle.m386_encode.proofs.Widened.{wide_by, before, tail_are, modrm_are}

-- ---- the bytes behind opcode and ModRM

no_length : (w : Width) (p : Operand) → is_tail p ≡ false → operand_length w p ≡ 0
no_length w Absent h = refl
no_length w E h = refl
no_length w M h = refl
no_length w R h = refl
no_length w G h = refl
no_length w S h = refl
no_length w Low h = refl
no_length w I h = cc
no_length w Ib h = cc
no_length w Iw h = cc
no_length w SignedByte h = cc
no_length w Jb h = cc
no_length w J h = cc
no_length w O h = cc
no_length w A h = cc
no_length w X h = refl
no_length w Table h = refl
no_length w Eax h = refl
no_length w Cl h = refl
no_length w Dx h = refl
no_length w One h = refl
no_length w Es h = refl
no_length w Cs h = refl
no_length w Ss h = refl
no_length w Ds h = refl
no_length w Fs h = refl
no_length w Gs h = refl
no_length w Cr0 h = refl

-- at most one of three holds
abbrev one_holds : Bool → Bool → Bool → Bool
one_holds a b c = (not a || not (b || c)) && (not b || not c)

beside_first : (a b c : Bool) → one_holds a b c ≡ true → a ≡ true → (b ≡ false) × (c ≡ false)
beside_first true true c h e = cc
beside_first true false true h e = cc
beside_first true false false h e = (refl, refl)
beside_first false b c h e = cc

beside_second : (a b c : Bool) → one_holds a b c ≡ true → b ≡ true → (a ≡ false) × (c ≡ false)
beside_second true true c h e = cc
beside_second false true true h e = cc
beside_second false true false h e = (refl, refl)
beside_second a false c h e = cc

beside_third : (a b c : Bool) → one_holds a b c ≡ true → c ≡ true → (a ≡ false) × (b ≡ false)
beside_third true true true h e = cc
beside_third true false true h e = cc
beside_third false true true h e = cc
beside_third false false true h e = (refl, refl)
beside_third a b false h e = cc

-- how many bytes three operands have there
abbrev lengths : Width → Row → ℕ
lengths w t = operand_length w t.first + operand_length w t.second + operand_length w t.third

-- the bytes of the one operand that has any are all
one_length : (t : Row) (w : Width) (q : Operand) → has_one_tail t ≡ true → IsAmong t q → is_tail q ≡ true → lengths w t ≡ operand_length w q
one_length t w q one among h =
    let P : Operand → Type 0 = λ x. is_tail x ≡ true in
    let L : Operand → Type 0 = λ x. lengths w t ≡ operand_length w x in
    elim among [
      | inl e ↦ (let b = beside_first (is_tail t.first) (is_tail t.second) (is_tail t.third) one (subst P e h) in
          subst L (sym e) (omega (arith, no_length w t.second b.0, no_length w t.third b.1)))
      | inr d ↦ elim d [
        | inl e ↦ (let b = beside_second (is_tail t.first) (is_tail t.second) (is_tail t.third) one (subst P e h) in
            subst L (sym e) (omega (arith, no_length w t.first b.0, no_length w t.third b.1)))
        | inr e ↦ (let b = beside_third (is_tail t.first) (is_tail t.second) (is_tail t.third) one (subst P e h) in
            subst L (sym e) (omega (arith, no_length w t.first b.0, no_length w t.second b.1)))
      ]
    ]

-- The bytes by which three operands have their values.
record TailOf (r : Row) (g : Fields) (w : Width) (x y z : Option Arg) : Type 0 where
  pub bytes : List ℕ
  pub are : Bytes bytes
  pub size : length bytes ≡ lengths w r
  pub first : is_tail r.first ≡ true → operand_value g w bytes r.first ≡ x
  pub second : is_tail r.second ≡ true → operand_value g w bytes r.second ≡ y
  pub third : is_tail r.third ≡ true → operand_value g w bytes r.third ≡ z

no_bytes : Bytes []
no_bytes k h = absurd (omega (arith, h))

tail_of : (r : Row) (g : Fields) (w : Width) (x y z : Option Arg) → has_one_tail r ≡ true → (is_tail r.first ≡ true → TailFor g w r.first x) → (is_tail r.second ≡ true → TailFor g w r.second y) →
    (is_tail r.third ≡ true → TailFor g w r.third z) → TailOf r g w x y z
tail_of r g w x y z one f s t =
    elim (cases_Bool (is_tail r.first)) [
      | inl a ↦ (let b = beside_first (is_tail r.first) (is_tail r.second) (is_tail r.third) one a in
          let m = f a in
          record { bytes = m.bytes; are = m.are; size = omega (arith, m.size, no_length w r.second b.0, no_length w r.third b.1); first = λ h. m.value; second = λ h. cc; third = λ h. cc })
      | inr a ↦ elim (cases_Bool (is_tail r.second)) [
        | inl b ↦ (let c = beside_second (is_tail r.first) (is_tail r.second) (is_tail r.third) one b in
            let m = s b in
            record { bytes = m.bytes; are = m.are; size = omega (arith, m.size, no_length w r.first a, no_length w r.third c.1); first = λ h. cc; second = λ h. m.value; third = λ h. cc })
        | inr b ↦ elim (cases_Bool (is_tail r.third)) [
          | inl c ↦ (let m = t c in
              record { bytes = m.bytes; are = m.are; size = omega (arith, m.size, no_length w r.first a, no_length w r.second b); first = λ h. cc; second = λ h. cc; third = λ h. m.value })
          | inr c ↦ record { bytes = []; are = no_bytes; size = omega (arith, no_length w r.first a, no_length w r.second b, no_length w r.third c); first = λ h. cc; second = λ h. cc; third = λ h. cc }
        ]
      ]
    ]

-- ---- the operands of the other operation

option_all : {X : Type 0} (P : X → Type 0) (o : Option X) → ((v : X) → o ≡ Some v → P v) → All P (option_to_list o)
option_all P None f = All-nil P
option_all P (Some v) f = All-cons P v [] (f v refl) (All-nil P)

-- each is drawn by an operand of its row
all_drawn : (t : Row) (k : Fields) (w : Width) (tail : List ℕ) → All (Drawn t k w tail) (items (operand_value k w tail t.first) (operand_value k w tail t.second) (operand_value k w tail t.third))
all_drawn t k w tail =
    let P : Arg → Type 0 = Drawn t k w tail in
    let L : List Arg → Type 0 = All P in
    subst L (sym (grouped (operand_value k w tail t.first) (operand_value k w tail t.second) (operand_value k w tail t.third)))
    (All-append P (option_to_list (operand_value k w tail t.first)) (option_to_list (operand_value k w tail t.second) ++ option_to_list (operand_value k w tail t.third))
    (option_all P (operand_value k w tail t.first) (λ v e. record { operand = t.first; among = inl refl; value = e }))
    (All-append P (option_to_list (operand_value k w tail t.second)) (option_to_list (operand_value k w tail t.third))
    (option_all P (operand_value k w tail t.second) (λ v e. record { operand = t.second; among = inr (inl refl); value = e }))
    (option_all P (operand_value k w tail t.third) (λ v e. record { operand = t.third; among = inr (inr refl); value = e }))))

front_holds : {X : Type 0} (P : X → Type 0) (o : Option X) (xs : List X) → All P (option_to_list o ++ xs) → (v : X) → o ≡ Some v → P v
front_holds P None xs h v e = cc
front_holds P (Some u) xs h v e = (let same : u ≡ v = cc in subst P same (All-head P u xs h))

rest_hold : {X : Type 0} (P : X → Type 0) (o : Option X) (xs : List X) → All P (option_to_list o ++ xs) → All P xs
rest_hold P None xs h = h
rest_hold P (Some u) xs h = All-tail P u xs h

last_holds : {X : Type 0} (P : X → Type 0) (o : Option X) → All P (option_to_list o) → (v : X) → o ≡ Some v → P v
last_holds P None h v e = cc
last_holds P (Some u) h v e = (let same : u ≡ v = cc in subst P same (All-head P u [] h))

small_of : (x : Option Arg) → ((v : Arg) → x ≡ Some v → IsSmall (Some v)) → IsSmall x
small_of None f = tt
small_of (Some v) f = f v refl

-- three operands that are blank alike, with the ModRM byte's beside them
picked : (p q : Bool) (a x b y place : Option Arg) → p && q ≡ false → (p ≡ true → a ≡ place) → (q ≡ true → b ≡ place) → option_map blank a ≡ option_map blank x → option_map blank b ≡ option_map blank y →
    (option_map blank place ≡ option_map blank (cond p x (cond q y place))) × ((p ≡ true → cond p x (cond q y place) ≡ x) × (q ≡ true → cond p x (cond q y place) ≡ y))
picked true true a x b y place h f g e d = cc
picked true false a x b y place h f g e d = (ap (option_map blank) (sym (f refl)) ∙ e, ((λ z. refl), (λ z. cc)))
picked false true a x b y place h f g e d = (ap (option_map blank) (sym (g refl)) ∙ d, ((λ z. cc), (λ z. refl)))
picked false false a x b y place h f g e d = (refl, ((λ z. cc), (λ z. cc)))

picked_small : (p q : Bool) (x y place : Option Arg) → IsSmall x → IsSmall y → IsSmall place → IsSmall (cond p x (cond q y place))
picked_small true q x y place a b c = a
picked_small false true x y place a b c = b
picked_small false false x y place a b c = c

same_length : (ps os ms ts ns us : List ℕ) → length ms ≡ length ns → length ts ≡ length us → length (ps ++ (os ++ (ms ++ ts))) ≡ length (ps ++ (os ++ (ns ++ us)))
same_length ps os ms ts ns us m t =
    omega (arith, m, t, length-append ps (os ++ (ms ++ ts)), length-append os (ms ++ ts), length-append ms ts, length-append ps (os ++ (ns ++ us)), length-append os (ns ++ us), length-append ns us)

-- ---- the other operation by the same opcode

pub full_parts : (n : Name) (a b c : Operand) → not (is_brief n a) && not (is_brief n b) && not (is_brief n c) ≡ true → (is_brief n a ≡ false) × ((is_brief n b ≡ false) × (is_brief n c ≡ false))
full_parts n a b c h =
    let x = and_parts (not (is_brief n a) && not (is_brief n b)) (not (is_brief n c)) h in
    let y = and_parts (not (is_brief n a)) (not (is_brief n b)) x.0 in
    (not-true (is_brief n a) y.0, (not-true (is_brief n b) y.1, not-true (is_brief n c) x.1))

-- A wide spelling of one operation that is as long as some bytes of another, and begins with a prefix where they do.
pub record WideLike (op : Op) (bytes : List ℕ) : Type 0 where
  pub more : List ℕ
  pub wide : IsWide op more
  pub size : length more ≡ length bytes
  pub begin : is_prefix (slice_index more 0) ≡ is_prefix (slice_index bytes 0)

begin_by : (short : Bool) (o : ℕ) (rest : List ℕ) → slice_index (cond short (o ∷ []) (0x0f ∷ (o - 0xf00) ∷ []) ++ rest) 0 ≡ cond short o 0x0f
begin_by true o rest = refl
begin_by false o rest = refl

same_begin : (ps : List ℕ) (o : ℕ) (xs ys : List ℕ) → slice_index (ps ++ (opcode_bytes o ++ xs)) 0 ≡ slice_index (ps ++ (opcode_bytes o ++ ys)) 0
same_begin [] o xs ys = begin_by (nat_lt o 256) o xs ∙ sym (begin_by (nat_lt o 256) o ys)
same_begin (p ∷ ps) o xs ys = refl

-- A wide spelling of one operation, and another that is the same but for its numbers, each of which holds something. What holds so is small,
-- and is drawn by each operand of its kind.
module _ (op other : Op) (bytes : List ℕ) (h : IsRenumbered op other) (s : Spells op bytes) (full : is_full s.row ≡ true) (whole : HasWholeDisplacement s.form) (Holds : Arg → Type 0) (all : All Holds other.args.items)
    (is_small : (v : Arg) → Holds v → IsSmall (Some v)) (draws : (p : Operand) → IsAmong s.row p → 0 < kind_of p → (v : Arg) → Holds v → sort v ≡ kind_of p → Draws op.width p (Some v)) where
  abbrev said : Prefixes
  said = prefixes_of s.prefixes

  abbrev w : Width
  w = op.width

  abbrev f : Fields
  f = fields_at s.prefixes s.opcode s.middle s.place

  abbrev a : Operand → Option Arg
  a p = operand_value f w s.tail p

  width_is : w ≡ width_of s.row.size said.narrow
  unfolding operation
  width_is = ap (λ (x : Op). x.width) s.spelled

  blank_is : map blank (items (a s.row.first) (a s.row.second) (a s.row.third)) ≡ map blank other.args.items
  unfolding operation
  blank_is =
      ap (λ m. map blank (items (operand_value f m s.tail s.row.first) (operand_value f m s.tail s.row.second) (operand_value f m s.tail s.row.third))) width_is ∙ (sym (ap (λ (x : Op). map blank x.args.items) s.spelled) ∙ h.args)

  split : Split (a s.row.first) (a s.row.second) (a s.row.third) other.args.items
  split = split_alike (a s.row.first) (a s.row.second) (a s.row.third) other.args.items blank_is

  abbrev x : Option Arg
  x = split.first

  abbrev y : Option Arg
  y = split.second

  abbrev z : Option Arg
  z = split.third

  held : All Holds (option_to_list x ++ (option_to_list y ++ option_to_list z))
  held = let L : List Arg → Type 0 = All Holds in subst L (split.are ∙ grouped x y z) all

  fulls : (is_brief s.row.name s.row.first ≡ false) × ((is_brief s.row.name s.row.second ≡ false) × (is_brief s.row.name s.row.third ≡ false))
  fulls = full_parts s.row.name s.row.first s.row.second s.row.third full

  abbrev Is : Operand → Option Arg → Type 0
  Is p o = Known Holds f w s.tail s.row.name p o

  first_known : Is s.row.first x
  first_known = record { alike = split.first_alike; full = fulls.0; holds = front_holds Holds x (option_to_list y ++ option_to_list z) held }

  rest : All Holds (option_to_list y ++ option_to_list z)
  rest = rest_hold Holds x (option_to_list y ++ option_to_list z) held

  second_known : Is s.row.second y
  second_known = record { alike = split.second_alike; full = fulls.1.0; holds = front_holds Holds y (option_to_list z) rest }

  third_known : Is s.row.third z
  third_known = record { alike = split.third_alike; full = fulls.1.1; holds = last_holds Holds z (rest_hold Holds y (option_to_list z) rest) }

  small : (p : Operand) (o : Option Arg) → Is p o → IsSmall o
  small p o is = small_of o (λ q e. is_small q (is.holds q e))

  -- what the ModRM byte names in the other
  abbrev new : Option Arg
  new = cond (is_place s.row.first) x (cond (is_place s.row.second) y s.place)

  abbrev g : Fields
  g = fields_at s.prefixes s.opcode s.middle new

  picks : (option_map blank s.place ≡ option_map blank new) × ((is_place s.row.first ≡ true → new ≡ x) × (is_place s.row.second ≡ true → new ≡ y))
  picks =
      picked (is_place s.row.first) (is_place s.row.second) (a s.row.first) x (a s.row.second) y s.place (one_place s.row s.listed) (place_said f w s.tail s.row.first) (place_said f w s.tail s.row.second) split.first_alike split.second_alike

  named_small : IsSmall new
  named_small =
      picked_small (is_place s.row.first) (is_place s.row.second) x y s.place (small s.row.first x first_known) (small s.row.second y second_known)
      (named_place said.seg s.modrm s.middle s.place (modrm_are op bytes s) s.form whole).small

  again : Again said.seg s.middle new (length s.modrm)
  again = form_again said.seg s.modrm s.middle s.place (modrm_are op bytes s) s.form whole new picks.0 named_small

  one : has_one_tail s.row ≡ true
  one = (has_shape s.row s.listed).single

  needed : (p : Operand) (o : Option Arg) → IsAmong s.row p → Is p o → is_tail p ≡ true → TailFor g w p o
  needed p o among is t =
      elim (cases_Bool (is_own p)) [
        | inl e ↦ own_again Holds f g w s.tail s.row.name p o is refl (draws p among) t e
        | inr e ↦ offset_for f g w s.tail s.row.name p o refl t e is.full is.alike (small p o is)
      ]

  behind : TailOf s.row g w x y z
  behind = tail_of s.row g w x y z one (needed s.row.first x (inl refl) first_known) (needed s.row.second y (inr (inl refl)) second_known) (needed s.row.third z (inr (inr refl)) third_known)

  same_value : (p : Operand) (o : Option Arg) → IsAmong s.row p → Is p o → (is_place p ≡ true → new ≡ o) → (is_tail p ≡ true → operand_value g w behind.bytes p ≡ o) → operand_value g w behind.bytes p ≡ o
  same_value p o among is q t =
      value_again f g w s.tail behind.bytes s.row.name p o refl refl is.full is.alike q t (fixed_again Holds f g w s.tail s.row.name p o is refl (draws p among) behind.bytes)

  third_free : is_place s.row.third ≡ false
  third_free =
      let t : Operand = s.row.third in
      let n : (not (is_place t) && not (is_middle t) && not (is_low t) && not (is_plain t)) ≡ true = (and_parts _ _ (and_parts _ _ (has_shape s.row s.listed).placed).0).1 in
      let l : (not (is_place t) && not (is_middle t)) ≡ true = (and_parts _ _ (and_parts _ _ n).0).0 in
      not-true (is_place t) (and_parts (not (is_place t)) (not (is_middle t)) l).0

  third_named : is_place s.row.third ≡ true → new ≡ z
  third_named e = (let never : false ≡ true = sym third_free ∙ e in cc)

  values : items (operand_value g w behind.bytes s.row.first) (operand_value g w behind.bytes s.row.second) (operand_value g w behind.bytes s.row.third) ≡ other.args.items
  values =
      rw (same_value s.row.first x (inl refl) first_known picks.1.0 behind.first, same_value s.row.second y (inr (inl refl)) second_known picks.1.1 behind.second, same_value s.row.third z (inr (inr refl)) third_known third_named behind.third)
      (sym split.are)

  spelled_again : operation s.row g behind.bytes ≡ other
  unfolding operation
  spelled_again =
      same_fields (operation s.row g behind.bytes) other (sym (ap (λ (q : Op). q.name) s.spelled) ∙ h.name) (sym width_is ∙ h.width) (sym (ap (λ (q : Op). q.lock) s.spelled) ∙ h.lock) (sym (ap (λ (q : Op). q.rep) s.spelled) ∙ h.rep)
      (ap (λ m. items (operand_value g m behind.bytes s.row.first) (operand_value g m behind.bytes s.row.second) (operand_value g m behind.bytes s.row.third)) (sym width_is) ∙ values)

  suited : suits s.row said.lock (is_memory new) ≡ true
  suited = let P : Bool → Type 0 = λ m. suits s.row said.lock m ≡ true in subst P (sym (same_memory s.place new picks.0)) s.suited

  tail_size : length behind.bytes ≡ tail_length s.row said.narrow
  unfolding tail_length
  tail_size = behind.size ∙ ap (λ m. lengths m s.row) width_is

  -- A wide spelling of the one gives one of the other that is as long.
  pub numbers_again : WideLike other bytes
  numbers_again =
      let form : Whole said.seg s.middle new = record { bytes = again.bytes; form = again.form; displaced = again.whole; are = again.are } in
      let wide = wide_by s.row s.prefixes s.opcode s.middle new behind.bytes s.listed full s.are_prefixes (before op bytes s) form (s.wanted ∙ sym (same_presence s.place new picks.0)) s.covered suited tail_size behind.are in
      let size : length (s.prefixes ++ (opcode_bytes s.opcode ++ (again.bytes ++ behind.bytes))) ≡ length (s.prefixes ++ (opcode_bytes s.opcode ++ (s.modrm ++ s.tail))) =
      same_length s.prefixes (opcode_bytes s.opcode) again.bytes behind.bytes s.modrm s.tail again.size (tail_size ∙ sym s.whole) in
      let P : Op → Type 0 = λ q. WideLike q bytes in
      subst P spelled_again
      (record {
        more = s.prefixes ++ (opcode_bytes s.opcode ++ (again.bytes ++ behind.bytes));
        wide = wide;
        size = size ∙ sym (ap length s.parts);
        begin = ap is_prefix (same_begin s.prefixes s.opcode (again.bytes ++ behind.bytes) (s.modrm ++ s.tail) ∙ sym (ap (λ q. slice_index q 0) s.parts));
      })

-- ---- an operation that is spelled too

module _ (op other : Op) (bytes some : List ℕ) (h : IsRenumbered op other) (s : Spells op bytes) (full : is_full s.row ≡ true) (whole : HasWholeDisplacement s.form) (u : Spells other some) (full_other : is_full u.row ≡ true)
    (whole_other : HasWholeDisplacement u.form) where
  abbrev k : Fields
  k = fields_at u.prefixes u.opcode u.middle u.place

  abbrev v : Width
  v = width_of u.row.size (prefixes_of u.prefixes).narrow

  other_width : op.width ≡ v
  unfolding operation
  other_width = h.width ∙ ap (λ (x : Op). x.width) u.spelled

  name_is : s.row.name ≡ u.row.name
  unfolding operation
  name_is = sym (ap (λ (x : Op). x.name) s.spelled) ∙ (h.name ∙ ap (λ (x : Op). x.name) u.spelled)

  like : Like s.row u.row
  like = like_rows s.row u.row s.listed u.listed full full_other name_is

  placed : IsPlace u.place
  placed = named_place (prefixes_of u.prefixes).seg u.modrm u.middle u.place (modrm_are other some u) u.form whole_other

  abbrev From : Arg → Type 0
  From = Drawn u.row k v u.tail

  drawn : All From other.args.items
  unfolding operation
  drawn = let L : Op → Type 0 = λ q. All From q.args.items in subst L (sym u.spelled) (all_drawn u.row k v u.tail)

  -- its numbers are drawn by the same operands
  draws : (p : Operand) → IsAmong s.row p → 0 < kind_of p → (q : Arg) → From q → sort q ≡ kind_of p → Draws v p (Some q)
  unfolding tail_length
  draws p among more q d is =
      let same : p ≡ d.operand = drawn_by p u.row k v u.tail q d placed (like_among s.row u.row p like among) more is in
      let M : Operand → Type 0 = λ x. IsAmong u.row x in
      let V : Operand → Type 0 = λ x. operand_value k v u.tail x ≡ Some q in
      record {
        fields = k;
        tail = u.tail;
        are = tail_are other some u;
        size = λ t. u.whole ∙ one_length u.row v p (has_shape u.row u.listed).single (subst M (sym same) d.among) t;
        value = subst V (sym same) d.value;
      }

  keeps_wide : WideLike other bytes
  keeps_wide =
      let W : Width → Type 0 = λ x. (p : Operand) → IsAmong s.row p → 0 < kind_of p → (q : Arg) → From q → sort q ≡ kind_of p → Draws x p (Some q) in
      numbers_again op other bytes h s full whole From drawn (λ q d. drawn_small u.row k v u.tail q d placed (tail_are other some u)) (subst W (sym other_width) draws)

-- ---- the law

length_by : (a b c : Bool) (m n : ℕ) → nat_lt m n ≡ a → a || b && c ≡ false → n ≤ m
length_by true b c m n e h = (let q : true ≡ false = h in cc)
length_by false b c m n e h = ltb-false m n e

not_shorter : (xs ys : List ℕ) → is_before xs ys ≡ false → length ys ≤ length xs
unfolding is_before
not_shorter xs ys h = length_by (nat_lt (length xs) (length ys)) (length xs == length ys) (is_less xs ys) (length xs) (length ys) refl h

one_way : (op other : Op) (bytes more : List ℕ) → IsRenumbered op other → IsShortestWide op bytes → IsShortestWide other more → length more ≤ length bytes
one_way op other bytes more h s t =
    let k = keeps_wide op other bytes more h s.wide.spells s.wide.full s.wide.displaced t.wide.spells t.wide.full t.wide.displaced in
    let l : length more ≤ length k.more = not_shorter k.more more (t.first k.more k.wide) in
    omega (arith, l, k.size)

back : (op other : Op) → IsRenumbered op other → IsRenumbered other op
back op other h = record { name = sym h.name; width = sym h.width; args = sym h.args; lock = sym h.lock; rep = sym h.rep }

pub keeps_length : KeepsLength
keeps_length op other bytes more h s t = omega (arith, one_way op other bytes more h s t, one_way other op more bytes (back op other h) t s)
