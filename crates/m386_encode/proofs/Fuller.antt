-- The rows that have in full what other rows of the same name have in fewer bytes.
use Rattle.std.proofs.Common.{◌≡◌, ℕ, ◌+◌, ◌*◌, ◌/◌, ◌%◌, ◌<◌, Bool, true, false, List, [], ◌∷◌, length, take, refl, sym, ap, arith, subst, ◌&&◌, ◌||◌, not, inl, inr, rules}
use Rattle.std.specs.Prelude.{Some, ◌==◌, if◌then◌else◌}
use Rattle.std.specs.List.{list_all, list_any, Contains}
use Rattle.std.proofs.lemmas.Bool.{and_parts, or_cases, eqb-true, cases_Bool}
use Rattle.std.proofs.lemmas.List.Sums.{AllPass-from_list_all}
use Rattle.std.proofs.lemmas.List.Elements.{All-contains}
use denote.Enum.Bare.{sameb, same_true}
use Rattle.m386_base.specs.declared.number.Width.{Width}
use Rattle.m386_base.specs.declared.number.Width.TheVariants.{W8, W32}
use Rattle.m386_opmap.specs.contracts.name.Name.{the_type as names}
use Rattle.m386_opmap.specs.contracts.row.Operand.{the_type as operands}
use Rattle.m386_opmap.specs.contracts.row.Size.{the_type as sizes}
use Rattle.m386_opmap.specs.declared.fields.Fields.{Fields}
use Rattle.m386_opmap.specs.declared.name.Name.{Name}
use Rattle.m386_opmap.specs.declared.op.Arg.TheVariants.{Imm, Rel}
use Rattle.m386_opmap.specs.declared.row.Operand.{Operand}
use Rattle.m386_opmap.specs.declared.row.Operand.TheVariants.{Absent, E, M, R, G, S, Low, I, Ib, Iw, SignedByte, Jb, J, O, A, X, Table, Eax, Cl, Dx, One, Es, Cs, Ss, Ds, Fs, Gs, Cr0}
use Rattle.m386_opmap.specs.declared.row.Row.{Row}
use Rattle.m386_opmap.specs.declared.row.Size.{Size}
use Rattle.m386_opmap.specs.Forms.{width_bytes, number, extended}
use Rattle.m386_opmap.specs.Opcodes.{opcode_rows}
use Rattle.m386_opmap.specs.Operands.{operand_value, operand_length, has_modrm, wants_memory, wants_register}
use Rattle.m386_base.proofs.Members.{contains_first, contains_later}
use Rattle.m386_encode.specs.Candidates.{low_bytes, is_low}
use Rattle.m386_encode.specs.Wide.{is_always_near, is_full, HasFullRow}
use Rattle.m386_encode.proofs.InFull.{bytes_next, number_again, extended_fits, distance_again}
use Rattle.m386_encode.proofs.Octets.{lowest_are, lowest_size}
use Rattle.m386_encode.proofs.RowParts.{is_tail}
use Rattle.m386_encode.proofs.Values.{Bytes}

-- the operand in its full size
abbrev pub fuller : Operand → Operand
fuller SignedByte = I
fuller One = Ib
fuller Jb = J
fuller Absent = Absent
fuller E = E
fuller M = M
fuller R = R
fuller G = G
fuller S = S
fuller Low = Low
fuller I = I
fuller Ib = Ib
fuller Iw = Iw
fuller J = J
fuller O = O
fuller A = A
fuller X = X
fuller Table = Table
fuller Eax = Eax
fuller Cl = Cl
fuller Dx = Dx
fuller Es = Es
fuller Cs = Cs
fuller Ss = Ss
fuller Ds = Ds
fuller Fs = Fs
fuller Gs = Gs
fuller Cr0 = Cr0

-- whether an operand has fewer bytes than its full size
abbrev pub is_short : Operand → Bool
is_short SignedByte = true
is_short One = true
is_short Jb = true
is_short _ = false

-- whether an operand is neither in the opcode nor behind opcode and ModRM
abbrev pub is_kept : Operand → Bool
is_kept x = not (is_tail x) && not (is_low x) && not (is_short x)

-- the bytes behind opcode and ModRM of the operand in its full size
abbrev pub full_tail : Width → List ℕ → Operand → List ℕ
full_tail w tail SignedByte = low_bytes (width_bytes w) (extended W8 w (number (take 1 tail)))
full_tail w tail Jb = low_bytes (width_bytes w) (extended W8 W32 (number (take 1 tail)))
full_tail w tail One = 1 ∷ []
full_tail w tail _ = []

number_small : (tail : List ℕ) → Bytes tail → number (take 1 tail) < 256
unfolding number
number_small [] f = omega arith
number_small (b ∷ bs) f = omega (arith, f 0 (omega arith))

-- the operand in its full size has the same value
pub value_full : (f g : Fields) (w : Width) (tail : List ℕ) (x : Operand) → is_short x ≡ true → Bytes tail → operand_value f w tail x ≡ operand_value g w (full_tail w tail x) (fuller x)
unfolding number
value_full f g w tail Absent h b = cc
value_full f g w tail E h b = cc
value_full f g w tail M h b = cc
value_full f g w tail R h b = cc
value_full f g w tail G h b = cc
value_full f g w tail S h b = cc
value_full f g w tail Low h b = cc
value_full f g w tail I h b = cc
value_full f g w tail Ib h b = cc
value_full f g w tail Iw h b = cc
value_full f g w tail SignedByte h b = ap (λ n. Some (Imm n)) (sym (number_again w (extended W8 w (number (take 1 tail))) (extended_fits w (number (take 1 tail)) (number_small tail b))))
value_full f g w tail Jb h b = ap (λ n. Some (Rel n)) (sym (distance_again w (number (take 1 tail)) (number_small tail b)))
value_full f g w tail J h b = cc
value_full f g w tail O h b = cc
value_full f g w tail A h b = cc
value_full f g w tail X h b = cc
value_full f g w tail Table h b = cc
value_full f g w tail Eax h b = cc
value_full f g w tail Cl h b = cc
value_full f g w tail Dx h b = cc
value_full f g w tail One h b = refl
value_full f g w tail Es h b = cc
value_full f g w tail Cs h b = cc
value_full f g w tail Ss h b = cc
value_full f g w tail Ds h b = cc
value_full f g w tail Fs h b = cc
value_full f g w tail Gs h b = cc
value_full f g w tail Cr0 h b = cc

-- the other operands have theirs, whatever bytes stand behind
pub value_kept : (f g : Fields) (w : Width) (tail other : List ℕ) (x : Operand) → is_kept x ≡ true → f.place ≡ g.place → f.middle ≡ g.middle → f.prefixes ≡ g.prefixes →
    operand_value f w tail x ≡ operand_value g w other (fuller x)
value_kept f g w tail other Absent h p m q = refl
value_kept f g w tail other E h p m q = p
value_kept f g w tail other M h p m q = p
value_kept f g w tail other R h p m q = p
value_kept f g w tail other G h p m q = rw m refl
value_kept f g w tail other S h p m q = rw m refl
value_kept f g w tail other Low h p m q = cc
value_kept f g w tail other I h p m q = cc
value_kept f g w tail other Ib h p m q = cc
value_kept f g w tail other Iw h p m q = cc
value_kept f g w tail other SignedByte h p m q = cc
value_kept f g w tail other Jb h p m q = cc
value_kept f g w tail other J h p m q = cc
value_kept f g w tail other O h p m q = cc
value_kept f g w tail other A h p m q = cc
value_kept f g w tail other X h p m q = rw q refl
value_kept f g w tail other Table h p m q = rw q refl
value_kept f g w tail other Eax h p m q = refl
value_kept f g w tail other Cl h p m q = refl
value_kept f g w tail other Dx h p m q = refl
value_kept f g w tail other One h p m q = cc
value_kept f g w tail other Es h p m q = refl
value_kept f g w tail other Cs h p m q = refl
value_kept f g w tail other Ss h p m q = refl
value_kept f g w tail other Ds h p m q = refl
value_kept f g w tail other Fs h p m q = refl
value_kept f g w tail other Gs h p m q = refl
value_kept f g w tail other Cr0 h p m q = refl

-- and no bytes behind opcode and ModRM
pub length_kept : (w : Width) (x : Operand) → is_kept x ≡ true → operand_length w (fuller x) ≡ 0
length_kept w Absent h = refl
length_kept w E h = refl
length_kept w M h = refl
length_kept w R h = refl
length_kept w G h = refl
length_kept w S h = refl
length_kept w Low h = cc
length_kept w I h = cc
length_kept w Ib h = cc
length_kept w Iw h = cc
length_kept w SignedByte h = cc
length_kept w Jb h = cc
length_kept w J h = cc
length_kept w O h = cc
length_kept w A h = cc
length_kept w X h = refl
length_kept w Table h = refl
length_kept w Eax h = refl
length_kept w Cl h = refl
length_kept w Dx h = refl
length_kept w One h = cc
length_kept w Es h = refl
length_kept w Cs h = refl
length_kept w Ss h = refl
length_kept w Ds h = refl
length_kept w Fs h = refl
length_kept w Gs h = refl
length_kept w Cr0 h = refl

pub length_full : (w : Width) (tail : List ℕ) (x : Operand) → is_short x ≡ true → length (full_tail w tail x) ≡ operand_length w (fuller x)
length_full w tail Absent h = cc
length_full w tail E h = cc
length_full w tail M h = cc
length_full w tail R h = cc
length_full w tail G h = cc
length_full w tail S h = cc
length_full w tail Low h = cc
length_full w tail I h = cc
length_full w tail Ib h = cc
length_full w tail Iw h = cc
length_full w tail SignedByte h = lowest_size (width_bytes w) _
length_full w tail Jb h = lowest_size (width_bytes w) _
length_full w tail J h = cc
length_full w tail O h = cc
length_full w tail A h = cc
length_full w tail X h = cc
length_full w tail Table h = cc
length_full w tail Eax h = cc
length_full w tail Cl h = cc
length_full w tail Dx h = cc
length_full w tail One h = refl
length_full w tail Es h = cc
length_full w tail Cs h = cc
length_full w tail Ss h = cc
length_full w tail Ds h = cc
length_full w tail Fs h = cc
length_full w tail Gs h = cc
length_full w tail Cr0 h = cc

no_bytes : Bytes []
no_bytes k h = absurd (omega arith)

pub full_are : (w : Width) (tail : List ℕ) (x : Operand) → is_short x ≡ true → Bytes (full_tail w tail x)
full_are w tail Absent h k l = cc
full_are w tail E h k l = cc
full_are w tail M h k l = cc
full_are w tail R h k l = cc
full_are w tail G h k l = cc
full_are w tail S h k l = cc
full_are w tail Low h k l = cc
full_are w tail I h k l = cc
full_are w tail Ib h k l = cc
full_are w tail Iw h k l = cc
full_are w tail SignedByte h k l = lowest_are (width_bytes w) _ k l
full_are w tail Jb h k l = lowest_are (width_bytes w) _ k l
full_are w tail J h k l = cc
full_are w tail O h k l = cc
full_are w tail A h k l = cc
full_are w tail X h k l = cc
full_are w tail Table h k l = cc
full_are w tail Eax h k l = cc
full_are w tail Cl h k l = cc
full_are w tail Dx h k l = cc
full_are w tail One h k l = bytes_next 1 [] (omega arith) no_bytes k l
full_are w tail Es h k l = cc
full_are w tail Cs h k l = cc
full_are w tail Ss h k l = cc
full_are w tail Ds h k l = cc
full_are w tail Fs h k l = cc
full_are w tail Gs h k l = cc
full_are w tail Cr0 h k l = cc

-- the opcode that has in full what an opcode has in fewer bytes
abbrev pub full_opcode : ℕ → ℕ
full_opcode o =
    if o == 0x6a then 0x68 else if o == 0x6b then 0x69 else if o == 0x83 then 0x81
    else if o == 0xd0 then 0xc0 else if o == 0xd1 then 0xc1 else if o == 0xeb then 0xe9 else o + 0xf10

-- the row of that opcode
abbrev pub full_row : Row → Row
full_row r =
    record {
      low = 8 * full_opcode (r.low / 8) + r.low % 8;
      high = 8 * full_opcode (r.high / 8) + r.high % 8;
      name = r.name;
      size = r.size;
      first = fuller r.first;
      second = fuller r.second;
      third = fuller r.third;
      lock = r.lock;
      newer = r.newer;
    }

-- two truth values are the same
abbrev pub alike : Bool → Bool → Bool
alike a b = if a then b else not b

-- whether two rows are the same
abbrev same_row : Row → Row → Bool
same_row r s =
    (r.low == s.low) && ((r.high == s.high) && (sameb names r.name s.name && (sameb sizes r.size s.size && (sameb operands r.first s.first
    && (sameb operands r.second s.second && (sameb operands r.third s.third && (alike r.lock s.lock && alike r.newer s.newer)))))))

-- one operand is short, and the others stay
abbrev pub is_turned : Row → Bool
is_turned r =
    (is_short r.first && (is_kept r.second && is_kept r.third)) || ((is_kept r.first && (is_short r.second && is_kept r.third))
    || (is_kept r.first && (is_kept r.second && is_short r.third)))

-- whether the row in full is one of the table, and wants the same
abbrev is_widened : Row → Bool
is_widened r =
    (r.low / 8 == r.high / 8) && (is_turned r && (alike (has_modrm r) (has_modrm (full_row r)) && (alike (wants_memory r) (wants_memory (full_row r))
    && (alike (wants_register r) (wants_register (full_row r)) && (is_full (full_row r) && list_any (same_row (full_row r)) opcode_rows)))))

all_widened : list_all (λ r. is_full r || is_widened r) opcode_rows ≡ true
all_widened = refl

pub alike_true : (a b : Bool) → alike a b ≡ true → a ≡ b
alike_true true b h = sym h
alike_true false true h = cc
alike_true false false h = refl

made : (l m h k : ℕ) (n o : Name) (s t : Size) (a b c d e f : Operand) (i j u v : Bool) → l ≡ m → h ≡ k → n ≡ o → s ≡ t → a ≡ b → c ≡ d → e ≡ f → i ≡ j → u ≡ v →
    ◌≡◌ {A = Row} (record { low = l; high = h; name = n; size = s; first = a; second = c; third = e; lock = i; newer = u })
    (record { low = m; high = k; name = o; size = t; first = b; second = d; third = f; lock = j; newer = v })
made l m h k n o s t a b c d e f i j u v p q x y z g w r e' = cc

same_row_true : (r s : Row) → same_row r s ≡ true → r ≡ s
same_row_true r s h =
    let a = and_parts _ _ h in
    let b = and_parts _ _ a.1 in
    let c = and_parts _ _ b.1 in
    let d = and_parts _ _ c.1 in
    let e = and_parts _ _ d.1 in
    let f = and_parts _ _ e.1 in
    let g = and_parts _ _ f.1 in
    let i = and_parts _ _ g.1 in
    made r.low s.low r.high s.high r.name s.name r.size s.size r.first s.first r.second s.second r.third s.third r.lock s.lock r.newer s.newer
    (eqb-true r.low s.low a.0) (eqb-true r.high s.high b.0) (same_true names (search rules) r.name s.name c.0) (same_true sizes (search rules) r.size s.size d.0)
    (same_true operands (search rules) r.first s.first e.0) (same_true operands (search rules) r.second s.second f.0) (same_true operands (search rules) r.third s.third g.0)
    (alike_true r.lock s.lock i.0) (alike_true r.newer s.newer i.1)

listed_same : (r : Row) (rows : List Row) → list_any (same_row r) rows ≡ true → Contains rows r
listed_same r [] h = cc
listed_same r (s ∷ rows) h =
    elim (or_cases (same_row r s) (list_any (same_row r) rows) h) [
      | inl e ↦ (let P : Row → Type 0 = λ x. Contains (x ∷ rows) r in subst P (same_row_true r s e) (contains_first r rows))
      | inr e ↦ contains_later s rows r (listed_same r rows e)
    ]

-- A row that has in full what another has in fewer bytes.
pub record Widens (r : Row) : Type 0 where
  pub single : r.low / 8 ≡ r.high / 8
  pub turned : is_turned r ≡ true
  pub modrm : has_modrm r ≡ has_modrm (full_row r)
  pub memory : wants_memory r ≡ wants_memory (full_row r)
  pub register : wants_register r ≡ wants_register (full_row r)
  pub full : is_full (full_row r) ≡ true
  pub listed : Contains opcode_rows (full_row r)

widens_by : (full : Bool) (r : Row) → full ≡ false → full || is_widened r ≡ true → Widens r
widens_by true r e h = cc
widens_by false r e h =
    let a = and_parts _ _ h in
    let b = and_parts _ _ a.1 in
    let c = and_parts _ _ b.1 in
    let d = and_parts _ _ c.1 in
    let f = and_parts _ _ d.1 in
    let g = and_parts _ _ f.1 in
    record {
      single = eqb-true _ _ a.0;
      turned = b.0;
      modrm = alike_true _ _ c.0;
      memory = alike_true _ _ d.0;
      register = alike_true _ _ f.0;
      full = g.0;
      listed = listed_same (full_row r) opcode_rows g.1;
    }

pub widens : (r : Row) → Contains opcode_rows r → is_full r ≡ false → Widens r
widens r c e = widens_by (is_full r) r e (All-contains (λ x. is_full x || is_widened x ≡ true) opcode_rows r (AllPass-from_list_all (λ x. is_full x || is_widened x) opcode_rows all_widened) c)

-- each row has a full one of its name and size
pub full_beside : (r : Row) → Contains opcode_rows r → HasFullRow r
full_beside r c =
    elim (cases_Bool (is_full r)) [
      | inl e ↦ record { row = r; listed = c; full = e; named = refl; sized = refl }
      | inr e ↦ (let w = widens r c e in record { row = full_row r; listed = w.listed; full = w.full; named = refl; sized = refl })
    ]

all_near : list_all (λ r. not (is_always_near r.name) || sameb operands r.first Jb) opcode_rows ≡ true
all_near = refl

near_by : (near : Bool) (x : Operand) → near ≡ true → not near || sameb operands x Jb ≡ true → x ≡ Jb
near_by true x e h = same_true operands (search rules) x Jb h
near_by false x e h = cc

-- a jump that is always near has a distance of a byte
pub near_stays : (r : Row) → Contains opcode_rows r → is_always_near r.name ≡ true → r.first ≡ Jb
near_stays r c e =
    near_by (is_always_near r.name) r.first e
    (All-contains (λ x. not (is_always_near x.name) || sameb operands x.first Jb ≡ true) opcode_rows r (AllPass-from_list_all (λ x. not (is_always_near x.name) || sameb operands x.first Jb) opcode_rows all_near) c)
