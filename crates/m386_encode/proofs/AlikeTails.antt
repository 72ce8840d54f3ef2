-- The bytes of the numbers in an operation, put behind the opcode by which another is spelled.
use Rattle.std.proofs.Common.{◌≡◌, ℕ, ◌%◌, ◌^◌, ◌<◌, Bool, true, false, List, [], ◌∷◌, ◌++◌, length, take, map, refl, sym, ◌∙◌, ap, arith, subst, append_assoc, ◌||◌}
use Rattle.std.specs.Prelude.{Option, Some, None, option_map, is_some, option_to_list, ◌==◌}
use Rattle.m386_base.specs.declared.number.Width.{Width}
use Rattle.m386_base.specs.declared.number.Width.TheVariants.{W32}
use Rattle.m386_opmap.specs.declared.fields.Fields.{Fields}
use Rattle.m386_opmap.specs.declared.fields.Prefixes.{Prefixes}
use Rattle.m386_opmap.specs.declared.name.Name.{Name}
use Rattle.m386_opmap.specs.declared.op.Addr.{Addr}
use Rattle.m386_opmap.specs.declared.op.Arg.{Arg}
use Rattle.m386_opmap.specs.declared.op.Arg.TheVariants.{Reg, Seg, Imm, Mem, Rel, Far}
use Rattle.m386_opmap.specs.declared.op.Arg.TheVariants as args
use Rattle.m386_opmap.specs.declared.row.Operand.{Operand}
use Rattle.m386_opmap.specs.declared.row.Operand.TheVariants.{Absent, E, M, R, G, S, Low, I, Ib, Iw, SignedByte, Jb, J, O, A, X, Table, Eax, Cl, Dx, One, Es, Cs, Ss, Ds, Fs, Gs, Cr0}
use Rattle.m386_opmap.specs.declared.row.Row.{Row}
use Rattle.m386_opmap.specs.Forms.{Form, absent, register, based, indexed, top_bits, middle_bits, low, base_of, index_of, scale_of, number, displacement}
use Rattle.m386_opmap.specs.Operands.{operand_value, operand_length, is_memory, plain_memory}
use Rattle.m386_encode.specs.Candidates.{low_bytes, is_place}
use Rattle.m386_encode.specs.Renumbered.{blank}
use Rattle.m386_encode.specs.Wide.{is_brief, HasWholeDisplacement}
use Rattle.m386_encode.proofs.AlikeRows.{kind_of, may_be, agrees_with, IsAmong, same_operand}
use Rattle.m386_encode.proofs.InFull.{bytes_next, number_again}
use Rattle.m386_encode.proofs.Octets.{lowest_are, lowest_size}
use Rattle.m386_encode.proofs.RowParts.{is_tail}
use Rattle.m386_encode.proofs.Tails.{items}
use Rattle.m386_encode.proofs.Values.{Bytes, later_bytes}

-- ---- kinds of values

-- the kind of a value: none for a register
abbrev pub sort : Arg → ℕ
sort (Reg n) = 0
sort (Seg n) = 0
sort args.Cr0 = 0
sort (Imm n) = 1
sort (Rel n) = 2
sort (Far s o) = 3
sort (Mem a) = 4

abbrev pub sort_of : Option Arg → ℕ
sort_of None = 0
sort_of (Some v) = sort v

-- memory's displacement is below 2^32
abbrev pub IsSmall : Option Arg → Type 0
IsSmall (Some (Mem a)) = a.disp < 2 ^ 32
IsSmall _ = Unit {0}

sort_blank : (o : Option Arg) → sort_of (option_map blank o) ≡ sort_of o
sort_blank None = refl
sort_blank (Some (Reg n)) = refl
sort_blank (Some (Seg n)) = refl
sort_blank (Some args.Cr0) = refl
sort_blank (Some (Imm n)) = refl
sort_blank (Some (Rel n)) = refl
sort_blank (Some (Far s o)) = refl
sort_blank (Some (Mem a)) = refl

memory_blank : (o : Option Arg) → is_memory (option_map blank o) ≡ is_memory o
memory_blank None = refl
memory_blank (Some (Reg n)) = refl
memory_blank (Some (Seg n)) = refl
memory_blank (Some args.Cr0) = refl
memory_blank (Some (Imm n)) = refl
memory_blank (Some (Rel n)) = refl
memory_blank (Some (Far s o)) = refl
memory_blank (Some (Mem a)) = refl

some_blank : (o : Option Arg) → is_some (option_map blank o) ≡ is_some o
some_blank None = refl
some_blank (Some v) = refl

-- what is blank alike is of one kind
pub same_sort : (o x : Option Arg) → option_map blank o ≡ option_map blank x → sort_of x ≡ sort_of o
same_sort o x e = sym (sort_blank x) ∙ sym (ap sort_of e) ∙ sort_blank o

pub same_memory : (o x : Option Arg) → option_map blank o ≡ option_map blank x → is_memory x ≡ is_memory o
same_memory o x e = sym (memory_blank x) ∙ sym (ap is_memory e) ∙ memory_blank o

pub same_presence : (o x : Option Arg) → option_map blank o ≡ option_map blank x → is_some x ≡ is_some o
same_presence o x e = sym (some_blank x) ∙ sym (ap is_some e) ∙ some_blank o

-- a value of a kind is there
some_value : (o : Option Arg) → 0 < sort_of o → (v : Arg) × (o ≡ Some v)
some_value None h = absurd (omega (arith, h))
some_value (Some v) h = (v, refl)

-- ---- what is blank alike and no number is the same

pub no_value : (x : Option Arg) → None ≡ option_map blank x → None ≡ x
no_value None e = refl
no_value (Some v) e = cc

pub same_register : (n : ℕ) (x : Option Arg) → Some (Reg n) ≡ option_map blank x → Some (Reg n) ≡ x
same_register n None e = cc
same_register n (Some (Reg m)) e = e
same_register n (Some (Seg m)) e = cc
same_register n (Some args.Cr0) e = cc
same_register n (Some (Imm m)) e = cc
same_register n (Some (Rel m)) e = cc
same_register n (Some (Far s o)) e = cc
same_register n (Some (Mem a)) e = cc

pub same_segment : (n : ℕ) (x : Option Arg) → Some (Seg n) ≡ option_map blank x → Some (Seg n) ≡ x
same_segment n None e = cc
same_segment n (Some (Reg m)) e = cc
same_segment n (Some (Seg m)) e = e
same_segment n (Some args.Cr0) e = cc
same_segment n (Some (Imm m)) e = cc
same_segment n (Some (Rel m)) e = cc
same_segment n (Some (Far s o)) e = cc
same_segment n (Some (Mem a)) e = cc

same_control : (x : Option Arg) → Some args.Cr0 ≡ option_map blank x → Some args.Cr0 ≡ x
same_control None e = cc
same_control (Some (Reg m)) e = cc
same_control (Some (Seg m)) e = cc
same_control (Some args.Cr0) e = refl
same_control (Some (Imm m)) e = cc
same_control (Some (Rel m)) e = cc
same_control (Some (Far s o)) e = cc
same_control (Some (Mem a)) e = cc

-- the address of memory, or else another
abbrev address_of : Addr → Option Arg → Addr
address_of other (Some (Mem a)) = a
address_of other _ = other

-- memory that is blank alike is the same with another displacement
pub same_place : (seg base index : Option ℕ) (scale disp : ℕ) (x : Option Arg) → Some (Mem (record { seg = seg; base = base; index = index; scale = scale; disp = 0 })) ≡ option_map blank x → IsSmall x →
    (d : ℕ) × ((d < 2 ^ 32) × (Some (Mem (record { seg = seg; base = base; index = index; scale = scale; disp = d })) ≡ x))
same_place seg base index scale disp None e h = cc
same_place seg base index scale disp (Some (Reg m)) e h = cc
same_place seg base index scale disp (Some (Seg m)) e h = cc
same_place seg base index scale disp (Some args.Cr0) e h = cc
same_place seg base index scale disp (Some (Imm m)) e h = cc
same_place seg base index scale disp (Some (Rel m)) e h = cc
same_place seg base index scale disp (Some (Far s o)) e h = cc
same_place seg base index scale disp (Some (Mem a)) e h = (a.disp, (h, again seg a.seg base a.base index a.index scale a.scale a.disp e))
  where
    again : (s t : Option ℕ) (b c : Option ℕ) (i j : Option ℕ) (k l : ℕ) (d : ℕ) → Some (Mem (record { seg = s; base = b; index = i; scale = k; disp = 0 })) ≡ Some (Mem (record { seg = t; base = c; index = j; scale = l; disp = 0 })) →
        Some (Mem (record { seg = s; base = b; index = i; scale = k; disp = d })) ≡ Some (Mem (record { seg = t; base = c; index = j; scale = l; disp = d }))
    again s t b c i j k l d e =
        let a = ap (address_of (record { seg = s; base = b; index = i; scale = k; disp = 0 })) e in
        rw (ap (λ (x : Addr). x.seg) a, ap (λ (x : Addr). x.base) a, ap (λ (x : Addr). x.index) a, ap (λ (x : Addr). x.scale) a) refl

-- ---- what a ModRM byte names

number_four : (bs : List ℕ) → Bytes bs → number (take 4 bs) < 2 ^ 32
unfolding number
number_four [] f = omega arith
number_four (a ∷ []) f = omega (arith, f 0 (omega arith))
number_four (a ∷ b ∷ []) f = omega (arith, f 0 (omega arith), f 1 (omega arith))
number_four (a ∷ b ∷ c ∷ []) f = omega (arith, f 0 (omega arith), f 1 (omega arith), f 2 (omega arith))
number_four (a ∷ b ∷ c ∷ d ∷ bs) f = omega (arith, f 0 (omega arith), f 1 (omega arith), f 2 (omega arith), f 3 (omega arith))

whole_small : (ds : List ℕ) → Bytes ds → length ds ≡ 4 → displacement ds < 2 ^ 32
unfolding number displacement
whole_small [] f h = absurd (omega (arith, h))
whole_small (a ∷ []) f h = absurd (omega (arith, h))
whole_small (a ∷ b ∷ []) f h = absurd (omega (arith, h))
whole_small (a ∷ b ∷ c ∷ []) f h = absurd (omega (arith, h))
whole_small (a ∷ b ∷ c ∷ d ∷ []) f h = number_four (a ∷ b ∷ c ∷ d ∷ []) f
whole_small (a ∷ b ∷ c ∷ d ∷ e ∷ bs) f h = absurd (omega (arith, h))

-- a register, or memory with a displacement below 2^32
pub record IsPlace (place : Option Arg) : Type 0 where
  pub kind : (sort_of place == 0) || (4 == sort_of place) ≡ true
  pub small : IsSmall place

pub named_place : (seg : Option ℕ) (bs : List ℕ) (mid : ℕ) (place : Option Arg) → Bytes bs → (form : Form seg bs mid place) → HasWholeDisplacement form → IsPlace place
named_place seg _ _ _ f absent w = record { kind = refl; small = tt }
named_place seg _ _ _ f (register m t) w = record { kind = refl; small = tt }
named_place seg _ _ _ f (based m ds t n l) w = record { kind = refl; small = whole_small ds (later_bytes m ds f) w }
named_place seg _ _ _ f (indexed m s ds t n l) w = record { kind = refl; small = whole_small ds (later_bytes s ds (later_bytes m (s ∷ ds) f)) w }

-- what names it with another displacement, and is as long
pub record Again (seg : Option ℕ) (mid : ℕ) (place : Option Arg) (n : ℕ) : Type 0 where
  pub bytes : List ℕ
  pub form : Form seg bytes mid place
  pub whole : HasWholeDisplacement form
  pub are : Bytes bytes
  pub size : length bytes ≡ n

whole_number : (d : ℕ) → d < 2 ^ 32 → displacement (low_bytes 4 d) ≡ d
unfolding displacement number low_bytes
whole_number d h = number_again W32 d h

-- What a ModRM byte names in full is named as long where it differs in the displacement alone.
pub form_again : (seg : Option ℕ) (bs : List ℕ) (mid : ℕ) (place : Option Arg) → Bytes bs → (form : Form seg bs mid place) → HasWholeDisplacement form → (x : Option Arg) → option_map blank place ≡ option_map blank x → IsSmall x →
    Again seg mid x (length bs)
form_again seg _ _ _ f absent w x e h =
    let P : Option Arg → Type 0 = λ y. Again seg 0 y 0 in
    subst P (no_value x e) (record { bytes = []; form = absent; whole = tt; are = f; size = refl })
form_again seg _ _ _ f (register m t) w x e h =
    let P : Option Arg → Type 0 = λ y. Again seg (middle_bits m) y 1 in
    subst P (same_register (low m) x e) (record { bytes = m ∷ []; form = register m t; whole = tt; are = f; size = refl })
form_again seg _ _ _ f (based m ds t n l) w x e h =
    let s = same_place seg (base_of (top_bits m) (low m)) None 1 0 x e h in
    let d : ℕ = s.0 in
    let P : ℕ → Type 0 = λ y. Again seg (middle_bits m) (Some (Mem (record { seg = seg; base = base_of (top_bits m) (low m); index = None; scale = 1; disp = y }))) (length (m ∷ ds)) in
    let Q : Option Arg → Type 0 = λ y. Again seg (middle_bits m) y (length (m ∷ ds)) in
    let size = lowest_size 4 d in
    let a : P (displacement (low_bytes 4 d)) = record { bytes = m ∷ low_bytes 4 d; form = based m (low_bytes 4 d) t n (size ∙ sym w ∙ l); whole = size; are = bytes_next m (low_bytes 4 d) (f 0 (omega arith)) (lowest_are 4 d); size = omega (arith, size, w) } in
    subst Q s.1.1 (subst P (whole_number d s.1.0) a)
form_again seg _ _ _ f (indexed m i ds t n l) w x e h =
    let s = same_place seg (base_of (top_bits m) (low i)) (index_of i) (scale_of i) 0 x e h in
    let d : ℕ = s.0 in
    let P : ℕ → Type 0 = λ y. Again seg (middle_bits m) (Some (Mem (record { seg = seg; base = base_of (top_bits m) (low i); index = index_of i; scale = scale_of i; disp = y }))) (length (m ∷ i ∷ ds)) in
    let Q : Option Arg → Type 0 = λ y. Again seg (middle_bits m) y (length (m ∷ i ∷ ds)) in
    let size = lowest_size 4 d in
    let a : P (displacement (low_bytes 4 d)) = record {
      bytes = m ∷ i ∷ low_bytes 4 d;
      form = indexed m i (low_bytes 4 d) t n (size ∙ sym w ∙ l);
      whole = size;
      are = bytes_next m (i ∷ low_bytes 4 d) (f 0 (omega arith)) (bytes_next i (low_bytes 4 d) (f 1 (omega arith)) (lowest_are 4 d));
      size = omega (arith, size, w);
    } in
    subst Q s.1.1 (subst P (whole_number d s.1.0) a)

-- ---- operands

-- whether a value stands in the bytes behind opcode and ModRM, and says nothing of a segment
abbrev pub is_own : Operand → Bool
is_own I = true
is_own Ib = true
is_own Iw = true
is_own Jb = true
is_own J = true
is_own A = true
is_own _ = false

-- such a value is the same beside any other fields
own_stays : (f g : Fields) (w : Width) (tail : List ℕ) (p : Operand) → is_own p ≡ true → operand_value f w tail p ≡ operand_value g w tail p
own_stays f g w tail Absent h = cc
own_stays f g w tail E h = cc
own_stays f g w tail M h = cc
own_stays f g w tail R h = cc
own_stays f g w tail G h = cc
own_stays f g w tail S h = cc
own_stays f g w tail Low h = cc
own_stays f g w tail I h = refl
own_stays f g w tail Ib h = refl
own_stays f g w tail Iw h = refl
own_stays f g w tail SignedByte h = cc
own_stays f g w tail Jb h = refl
own_stays f g w tail J h = refl
own_stays f g w tail O h = cc
own_stays f g w tail A h = refl
own_stays f g w tail X h = cc
own_stays f g w tail Table h = cc
own_stays f g w tail Eax h = cc
own_stays f g w tail Cl h = cc
own_stays f g w tail Dx h = cc
own_stays f g w tail One h = cc
own_stays f g w tail Es h = cc
own_stays f g w tail Cs h = cc
own_stays f g w tail Ss h = cc
own_stays f g w tail Ds h = cc
own_stays f g w tail Fs h = cc
own_stays f g w tail Gs h = cc
own_stays f g w tail Cr0 h = cc

own_kind : (f : Fields) (w : Width) (tail : List ℕ) (p : Operand) → is_own p ≡ true → (0 < kind_of p) × (sort_of (operand_value f w tail p) ≡ kind_of p)
own_kind f w tail Absent h = cc
own_kind f w tail E h = cc
own_kind f w tail M h = cc
own_kind f w tail R h = cc
own_kind f w tail G h = cc
own_kind f w tail S h = cc
own_kind f w tail Low h = cc
own_kind f w tail I h = (omega arith, refl)
own_kind f w tail Ib h = (omega arith, refl)
own_kind f w tail Iw h = (omega arith, refl)
own_kind f w tail SignedByte h = cc
own_kind f w tail Jb h = (omega arith, refl)
own_kind f w tail J h = (omega arith, refl)
own_kind f w tail O h = cc
own_kind f w tail A h = (omega arith, refl)
own_kind f w tail X h = cc
own_kind f w tail Table h = cc
own_kind f w tail Eax h = cc
own_kind f w tail Cl h = cc
own_kind f w tail Dx h = cc
own_kind f w tail One h = cc
own_kind f w tail Es h = cc
own_kind f w tail Cs h = cc
own_kind f w tail Ss h = cc
own_kind f w tail Ds h = cc
own_kind f w tail Fs h = cc
own_kind f w tail Gs h = cc
own_kind f w tail Cr0 h = cc

-- of which kind an operand's value is
value_kind : (f : Fields) (w : Width) (tail : List ℕ) (q : Operand) → IsPlace f.place → (sort_of (operand_value f w tail q) == 0) || (may_be q == sort_of (operand_value f w tail q)) ≡ true
value_kind f w tail Absent p = refl
value_kind f w tail E p = p.kind
value_kind f w tail M p = p.kind
value_kind f w tail R p = p.kind
value_kind f w tail G p = refl
value_kind f w tail S p = refl
value_kind f w tail Low p = refl
value_kind f w tail I p = refl
value_kind f w tail Ib p = refl
value_kind f w tail Iw p = refl
value_kind f w tail SignedByte p = refl
value_kind f w tail Jb p = refl
value_kind f w tail J p = refl
value_kind f w tail O p = refl
value_kind f w tail A p = refl
value_kind f w tail X p = refl
value_kind f w tail Table p = refl
value_kind f w tail Eax p = refl
value_kind f w tail Cl p = refl
value_kind f w tail Dx p = refl
value_kind f w tail One p = refl
value_kind f w tail Es p = refl
value_kind f w tail Cs p = refl
value_kind f w tail Ss p = refl
value_kind f w tail Ds p = refl
value_kind f w tail Fs p = refl
value_kind f w tail Gs p = refl
value_kind f w tail Cr0 p = refl

value_small : (f : Fields) (w : Width) (tail : List ℕ) (q : Operand) → IsPlace f.place → Bytes tail → IsSmall (operand_value f w tail q)
value_small f w tail Absent p b = tt
value_small f w tail E p b = p.small
value_small f w tail M p b = p.small
value_small f w tail R p b = p.small
value_small f w tail G p b = tt
value_small f w tail S p b = tt
value_small f w tail Low p b = tt
value_small f w tail I p b = tt
value_small f w tail Ib p b = tt
value_small f w tail Iw p b = tt
value_small f w tail SignedByte p b = tt
value_small f w tail Jb p b = tt
value_small f w tail J p b = tt
value_small f w tail O p b = number_four tail b
value_small f w tail A p b = tt
value_small f w tail X p b = omega arith
value_small f w tail Table p b = omega arith
value_small f w tail Eax p b = tt
value_small f w tail Cl p b = tt
value_small f w tail Dx p b = tt
value_small f w tail One p b = tt
value_small f w tail Es p b = tt
value_small f w tail Cs p b = tt
value_small f w tail Ss p b = tt
value_small f w tail Ds p b = tt
value_small f w tail Fs p b = tt
value_small f w tail Gs p b = tt
value_small f w tail Cr0 p b = tt

-- A value that an operand of a row has in some bytes.
pub record Drawn (t : Row) (f : Fields) (w : Width) (tail : List ℕ) (v : Arg) : Type 0 where
  pub operand : Operand
  pub among : IsAmong t operand
  pub value : operand_value f w tail operand ≡ Some v

drawn_kind : (t : Row) (f : Fields) (w : Width) (tail : List ℕ) (v : Arg) (d : Drawn t f w tail v) → IsPlace f.place → (sort v == 0) || (may_be d.operand == sort v) ≡ true
drawn_kind t f w tail v d p =
    let P : Option Arg → Type 0 = λ o. (sort_of o == 0) || (may_be d.operand == sort_of o) ≡ true in
    subst P d.value (value_kind f w tail d.operand p)

pub drawn_small : (t : Row) (f : Fields) (w : Width) (tail : List ℕ) (v : Arg) → Drawn t f w tail v → IsPlace f.place → Bytes tail → IsSmall (Some v)
drawn_small t f w tail v d p b = subst IsSmall d.value (value_small f w tail d.operand p b)

-- An operand's value is drawn by the operand itself, where it is alone of its kind.
pub drawn_by : (p : Operand) (t : Row) (f : Fields) (w : Width) (tail : List ℕ) (v : Arg) (d : Drawn t f w tail v) → IsPlace f.place → agrees_with t p ≡ true → 0 < kind_of p → sort v ≡ kind_of p → p ≡ d.operand
drawn_by p t f w tail v d place agree more is = same_operand p d.operand t (sort v) agree d.among more is (drawn_kind t f w tail v d place)

-- The bytes by which an operand has a value.
pub record TailFor (g : Fields) (w : Width) (p : Operand) (x : Option Arg) : Type 0 where
  pub bytes : List ℕ
  pub are : Bytes bytes
  pub size : length bytes ≡ operand_length w p
  pub value : operand_value g w bytes p ≡ x

-- memory whose offset stands there
offset_of : (f g : Fields) (w : Width) (x : Option Arg) → f.prefixes ≡ g.prefixes → (d : ℕ) × ((d < 2 ^ 32) × (Some (plain_memory f.prefixes.seg None d) ≡ x)) → TailFor g w O x
offset_of f g w x same s =
    let n : number (take 4 (low_bytes 4 s.0)) ≡ s.0 = number_again W32 s.0 s.1.0 in
    let seg : g.prefixes.seg ≡ f.prefixes.seg = sym (ap (λ (p : Prefixes). p.seg) same) in
    record {
      bytes = low_bytes 4 s.0;
      are = lowest_are 4 s.0;
      size = lowest_size 4 s.0;
      value = ap (λ d. Some (plain_memory g.prefixes.seg None d)) n ∙ (ap (λ z. Some (plain_memory z None s.0)) seg ∙ s.1.1);
    }

pub offset_for : (f g : Fields) (w : Width) (tail : List ℕ) (name : Name) (p : Operand) (x : Option Arg) → f.prefixes ≡ g.prefixes → is_tail p ≡ true → is_own p ≡ false → is_brief name p ≡ false →
    option_map blank (operand_value f w tail p) ≡ option_map blank x → IsSmall x → TailFor g w p x
offset_for f g w tail name Absent x same t o b e h = cc
offset_for f g w tail name E x same t o b e h = cc
offset_for f g w tail name M x same t o b e h = cc
offset_for f g w tail name R x same t o b e h = cc
offset_for f g w tail name G x same t o b e h = cc
offset_for f g w tail name S x same t o b e h = cc
offset_for f g w tail name Low x same t o b e h = cc
offset_for f g w tail name I x same t o b e h = cc
offset_for f g w tail name Ib x same t o b e h = cc
offset_for f g w tail name Iw x same t o b e h = cc
offset_for f g w tail name SignedByte x same t o b e h = cc
offset_for f g w tail name Jb x same t o b e h = cc
offset_for f g w tail name J x same t o b e h = cc
offset_for f g w tail name O x same t o b e h = offset_of f g w x same (same_place f.prefixes.seg None None 1 0 x e h)
offset_for f g w tail name A x same t o b e h = cc
offset_for f g w tail name X x same t o b e h = cc
offset_for f g w tail name Table x same t o b e h = cc
offset_for f g w tail name Eax x same t o b e h = cc
offset_for f g w tail name Cl x same t o b e h = cc
offset_for f g w tail name Dx x same t o b e h = cc
offset_for f g w tail name One x same t o b e h = cc
offset_for f g w tail name Es x same t o b e h = cc
offset_for f g w tail name Cs x same t o b e h = cc
offset_for f g w tail name Ss x same t o b e h = cc
offset_for f g w tail name Ds x same t o b e h = cc
offset_for f g w tail name Fs x same t o b e h = cc
offset_for f g w tail name Gs x same t o b e h = cc
offset_for f g w tail name Cr0 x same t o b e h = cc

-- ---- what an operand's value becomes

still : (seg base other : Option ℕ) (x : Option Arg) → Some (plain_memory seg base 0) ≡ option_map blank x → Some (plain_memory other base 0) ≡ x → Some (plain_memory seg base 0) ≡ x
still seg base other x e q = e ∙ (sym (ap (option_map blank) q) ∙ q)

-- whether an operand is memory at a register of its own
abbrev pub is_fixed : Operand → Bool
is_fixed X = true
is_fixed Table = true
is_fixed _ = false

fixed_kind : (f : Fields) (w : Width) (tail : List ℕ) (p : Operand) → is_fixed p ≡ true → (0 < kind_of p) × (sort_of (operand_value f w tail p) ≡ kind_of p)
fixed_kind f w tail Absent h = cc
fixed_kind f w tail E h = cc
fixed_kind f w tail M h = cc
fixed_kind f w tail R h = cc
fixed_kind f w tail G h = cc
fixed_kind f w tail S h = cc
fixed_kind f w tail Low h = cc
fixed_kind f w tail I h = cc
fixed_kind f w tail Ib h = cc
fixed_kind f w tail Iw h = cc
fixed_kind f w tail SignedByte h = cc
fixed_kind f w tail Jb h = cc
fixed_kind f w tail J h = cc
fixed_kind f w tail O h = cc
fixed_kind f w tail A h = cc
fixed_kind f w tail X h = (omega arith, refl)
fixed_kind f w tail Table h = (omega arith, refl)
fixed_kind f w tail Eax h = cc
fixed_kind f w tail Cl h = cc
fixed_kind f w tail Dx h = cc
fixed_kind f w tail One h = cc
fixed_kind f w tail Es h = cc
fixed_kind f w tail Cs h = cc
fixed_kind f w tail Ss h = cc
fixed_kind f w tail Ds h = cc
fixed_kind f w tail Fs h = cc
fixed_kind f w tail Gs h = cc
fixed_kind f w tail Cr0 h = cc

-- memory at a register of its own has no number
fixed_stays : (f g k : Fields) (w : Width) (tail new other : List ℕ) (p : Operand) (x : Option Arg) → f.prefixes.seg ≡ g.prefixes.seg → is_fixed p ≡ true → option_map blank (operand_value f w tail p) ≡ option_map blank x → operand_value k w other p ≡ x →
    operand_value g w new p ≡ x
fixed_stays f g k w tail new other Absent x same h e q = cc
fixed_stays f g k w tail new other E x same h e q = cc
fixed_stays f g k w tail new other M x same h e q = cc
fixed_stays f g k w tail new other R x same h e q = cc
fixed_stays f g k w tail new other G x same h e q = cc
fixed_stays f g k w tail new other S x same h e q = cc
fixed_stays f g k w tail new other Low x same h e q = cc
fixed_stays f g k w tail new other I x same h e q = cc
fixed_stays f g k w tail new other Ib x same h e q = cc
fixed_stays f g k w tail new other Iw x same h e q = cc
fixed_stays f g k w tail new other SignedByte x same h e q = cc
fixed_stays f g k w tail new other Jb x same h e q = cc
fixed_stays f g k w tail new other J x same h e q = cc
fixed_stays f g k w tail new other O x same h e q = cc
fixed_stays f g k w tail new other A x same h e q = cc
fixed_stays f g k w tail new other X x same h e q = rw (sym same) (still f.prefixes.seg (Some 6) k.prefixes.seg x e q)
fixed_stays f g k w tail new other Table x same h e q = rw (sym same) (still f.prefixes.seg (Some 3) k.prefixes.seg x e q)
fixed_stays f g k w tail new other Eax x same h e q = cc
fixed_stays f g k w tail new other Cl x same h e q = cc
fixed_stays f g k w tail new other Dx x same h e q = cc
fixed_stays f g k w tail new other One x same h e q = cc
fixed_stays f g k w tail new other Es x same h e q = cc
fixed_stays f g k w tail new other Cs x same h e q = cc
fixed_stays f g k w tail new other Ss x same h e q = cc
fixed_stays f g k w tail new other Ds x same h e q = cc
fixed_stays f g k w tail new other Fs x same h e q = cc
fixed_stays f g k w tail new other Gs x same h e q = cc
fixed_stays f g k w tail new other Cr0 x same h e q = cc

-- A value that an operand has by some fields and bytes behind opcode and ModRM.
pub record Draws (w : Width) (p : Operand) (x : Option Arg) : Type 0 where
  pub fields : Fields
  pub tail : List ℕ
  pub are : Bytes tail
  pub size : is_tail p ≡ true → length tail ≡ operand_length w p
  pub value : operand_value fields w tail p ≡ x

-- What is known of an operand of a row in one operation, and of what stands in its place in another, whose operands each hold something.
pub record Known (Holds : Arg → Type 0) (f : Fields) (w : Width) (tail : List ℕ) (name : Name) (p : Operand) (x : Option Arg) : Type 0 where
  pub alike : option_map blank (operand_value f w tail p) ≡ option_map blank x
  pub full : is_brief name p ≡ false
  pub holds : (v : Arg) → x ≡ Some v → Holds v

module _ (Holds : Arg → Type 0) (f g : Fields) (w : Width) (tail : List ℕ) (name : Name) (p : Operand) (x : Option Arg) (known : Known Holds f w tail name p x) (same : f.prefixes ≡ g.prefixes)
    (draws : 0 < kind_of p → (v : Arg) → Holds v → sort v ≡ kind_of p → Draws w p (Some v)) where
  -- a number of a kind is drawn by the operand of that kind
  drawn : 0 < kind_of p → sort_of (operand_value f w tail p) ≡ kind_of p → Draws w p x
  drawn more is =
      let s : sort_of x ≡ kind_of p = same_sort (operand_value f w tail p) x known.alike ∙ is in
      let v = some_value x (omega (arith, s, more)) in
      let P : Option Arg → Type 0 = λ y. Draws w p y in
      subst P (sym v.1) (draws more v.0 (known.holds v.0 v.1) (sym (ap sort_of v.1) ∙ s))

  pub own_again : is_tail p ≡ true → is_own p ≡ true → TailFor g w p x
  own_again t h =
      let n = own_kind f w tail p h in
      let d = drawn n.0 n.1 in
      record { bytes = d.tail; are = d.are; size = d.size t; value = own_stays g d.fields w d.tail p h ∙ d.value }

  pub fixed_again : (new : List ℕ) → is_fixed p ≡ true → operand_value g w new p ≡ x
  fixed_again new h =
      let n = fixed_kind f w tail p h in
      let d = drawn n.0 n.1 in
      fixed_stays f g d.fields w tail new d.tail p x (ap (λ (y : Prefixes). y.seg) same) h known.alike d.value

-- what an operand of one operation is in the other
pub value_again : (f g : Fields) (w : Width) (tail new : List ℕ) (name : Name) (p : Operand) (x : Option Arg) → f.middle ≡ g.middle → f.opcode ≡ g.opcode → is_brief name p ≡ false →
    option_map blank (operand_value f w tail p) ≡ option_map blank x → (is_place p ≡ true → g.place ≡ x) → (is_tail p ≡ true → operand_value g w new p ≡ x) → (is_fixed p ≡ true → operand_value g w new p ≡ x) →
    operand_value g w new p ≡ x
value_again f g w tail new name Absent x m o b e place behind fixed = no_value x e
value_again f g w tail new name E x m o b e place behind fixed = place refl
value_again f g w tail new name M x m o b e place behind fixed = place refl
value_again f g w tail new name R x m o b e place behind fixed = place refl
value_again f g w tail new name G x m o b e place behind fixed = rw (sym m) (same_register f.middle x e)
value_again f g w tail new name S x m o b e place behind fixed = rw (sym m) (same_segment f.middle x e)
value_again f g w tail new name Low x m o b e place behind fixed = rw (sym o) (same_register (f.opcode % 8) x e)
value_again f g w tail new name I x m o b e place behind fixed = behind refl
value_again f g w tail new name Ib x m o b e place behind fixed = behind refl
value_again f g w tail new name Iw x m o b e place behind fixed = behind refl
value_again f g w tail new name SignedByte x m o b e place behind fixed = behind refl
value_again f g w tail new name Jb x m o b e place behind fixed = behind refl
value_again f g w tail new name J x m o b e place behind fixed = behind refl
value_again f g w tail new name O x m o b e place behind fixed = behind refl
value_again f g w tail new name A x m o b e place behind fixed = behind refl
value_again f g w tail new name X x m o b e place behind fixed = fixed refl
value_again f g w tail new name Table x m o b e place behind fixed = fixed refl
value_again f g w tail new name Eax x m o b e place behind fixed = same_register 0 x e
value_again f g w tail new name Cl x m o b e place behind fixed = same_register 1 x e
value_again f g w tail new name Dx x m o b e place behind fixed = same_register 2 x e
value_again f g w tail new name One x m o b e place behind fixed = cc
value_again f g w tail new name Es x m o b e place behind fixed = same_segment 0 x e
value_again f g w tail new name Cs x m o b e place behind fixed = same_segment 1 x e
value_again f g w tail new name Ss x m o b e place behind fixed = same_segment 2 x e
value_again f g w tail new name Ds x m o b e place behind fixed = same_segment 3 x e
value_again f g w tail new name Fs x m o b e place behind fixed = same_segment 4 x e
value_again f g w tail new name Gs x m o b e place behind fixed = same_segment 5 x e
value_again f g w tail new name Cr0 x m o b e place behind fixed = same_control x e

-- ---- three operands

-- Where operands are blank alike with some others, these are three too.
pub record Split (a b c : Option Arg) (xs : List Arg) : Type 0 where
  pub first : Option Arg
  pub second : Option Arg
  pub third : Option Arg
  pub are : xs ≡ items first second third
  pub first_alike : option_map blank a ≡ option_map blank first
  pub second_alike : option_map blank b ≡ option_map blank second
  pub third_alike : option_map blank c ≡ option_map blank third

-- three operands, the second and third together
pub grouped : (a b c : Option Arg) → items a b c ≡ option_to_list a ++ (option_to_list b ++ option_to_list c)
grouped a b c = append_assoc (option_to_list a) (option_to_list b) (option_to_list c)

-- the first of some operands
record Front (a : Option Arg) (rest xs : List Arg) : Type 0 where
  pub first : Option Arg
  pub others : List Arg
  pub are : xs ≡ option_to_list first ++ others
  pub alike : option_map blank a ≡ option_map blank first
  pub later : map blank rest ≡ map blank others

front : (a : Option Arg) (rest xs : List Arg) → map blank (option_to_list a ++ rest) ≡ map blank xs → Front a rest xs
front None rest xs e = record { first = None; others = xs; are = refl; alike = refl; later = e }
front (Some v) rest [] e = cc
front (Some v) rest (x ∷ xs) e = record { first = Some x; others = xs; are = refl; alike = cc; later = cc }

record Last (c : Option Arg) (xs : List Arg) : Type 0 where
  pub third : Option Arg
  pub are : xs ≡ option_to_list third
  pub alike : option_map blank c ≡ option_map blank third

last : (c : Option Arg) (xs : List Arg) → map blank (option_to_list c) ≡ map blank xs → Last c xs
last None [] e = record { third = None; are = refl; alike = refl }
last None (x ∷ xs) e = cc
last (Some v) [] e = cc
last (Some v) (x ∷ []) e = record { third = Some x; are = refl; alike = cc }
last (Some v) (x ∷ y ∷ xs) e = cc

pub split_alike : (a b c : Option Arg) (xs : List Arg) → map blank (items a b c) ≡ map blank xs → Split a b c xs
split_alike a b c xs e =
    let x = front a (option_to_list b ++ option_to_list c) xs (sym (ap (map blank) (grouped a b c)) ∙ e) in
    let y = front b (option_to_list c) x.others x.later in
    let z = last c y.others y.later in
    let inner : x.others ≡ option_to_list y.first ++ option_to_list z.third = y.are ∙ ap (λ l. option_to_list y.first ++ l) z.are in
    let all : xs ≡ option_to_list x.first ++ (option_to_list y.first ++ option_to_list z.third) = x.are ∙ ap (λ l. option_to_list x.first ++ l) inner in
    record {
      first = x.first;
      second = y.first;
      third = z.third;
      are = all ∙ sym (grouped x.first y.first z.third);
      first_alike = x.alike;
      second_alike = y.alike;
      third_alike = z.alike;
    }
