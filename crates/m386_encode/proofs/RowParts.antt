-- The parts of a candidate are those of a spelling by the same row.
use Rattle.std.proofs.Common.{◌≡◌, ℕ, ◌+◌, ◌/◌, ◌%◌, ◌<◌, ◌≤◌, Bool, true, false, cond, List, refl, arith, ◌&&◌, ◌||◌, not, nat_lt, nat_le}
use Rattle.std.proofs.lemmas.Bool.{and_parts, leb-true, eqb-true, not-true}
use Rattle.std.specs.Prelude.{Option, Some, ◌==◌, if◌then◌else◌}
use Rattle.std.specs.List.{list_all, Contains}
use Rattle.std.proofs.lemmas.List.Sums.{AllPass-from_list_all}
use Rattle.std.proofs.lemmas.List.Elements.{All-contains}
use Rattle.m386_base.specs.declared.number.Width.{Width}
use Rattle.m386_opmap.specs.declared.fields.Fields.{Fields}
use Rattle.m386_opmap.specs.declared.op.Arg.{Arg}
use Rattle.m386_opmap.specs.declared.op.Arg.TheVariants.{Reg, Seg, Mem}
use Rattle.m386_opmap.specs.declared.row.Operand.{Operand}
use Rattle.m386_opmap.specs.declared.row.Operand.TheVariants.{Absent, E, M, R, G, S, Low, I, Ib, Iw, SignedByte, Jb, J, O, A, X, Table, Eax, Cl, Dx, One, Es, Cs, Ss, Ds, Fs, Gs, Cr0}
use Rattle.m386_opmap.specs.declared.row.Row.{Row}
use Rattle.m386_opmap.specs.Opcodes.{opcode_rows}
use Rattle.m386_opmap.specs.Operands.{operand_value, has_modrm, tail_length}
use Rattle.m386_encode.specs.Candidates.{register, is_middle, is_low, is_place}
use Rattle.m386_encode.proofs.Values.{is_plain}

-- whether there is no operand
abbrev pub is_absent : Operand → Bool
is_absent Absent = true
is_absent _ = false

-- whether bytes behind opcode and ModRM are the operand's
abbrev pub is_tail : Operand → Bool
is_tail I = true
is_tail Ib = true
is_tail Iw = true
is_tail SignedByte = true
is_tail Jb = true
is_tail J = true
is_tail O = true
is_tail A = true
is_tail _ = false

-- how the operands of a row stand
abbrev pub is_placed : Row → Bool
is_placed r =
    (not (is_absent r.first) || is_absent r.second) && (not (is_absent r.second) || is_absent r.third)
    && (not (is_place r.third) && not (is_middle r.third) && not (is_low r.third) && not (is_plain r.third))
    && (if has_modrm r then is_place r.first || is_place r.second else not (is_place r.first || is_place r.second))

-- at most one operand has bytes behind opcode and ModRM
abbrev pub has_one_tail : Row → Bool
has_one_tail r = (not (is_tail r.first) || not (is_tail r.second || is_tail r.third)) && (not (is_tail r.second) || not (is_tail r.third))

-- how the opcodes of a row stand
abbrev pub is_keyed : Row → Bool
is_keyed r =
    if is_low r.first || is_low r.second then (r.low / 64 == r.high / 64) && not (has_modrm r)
    else (r.low / 8 == r.high / 8 || (not (has_modrm r) && nat_lt r.high 2048))

-- the longest spelling of a row without prefixes, with 66h or without
abbrev pub is_few : Row → Bool → Bool
is_few r narrow = nat_le (tail_length r narrow + (if has_modrm r then 6 else 0) + (if nat_lt r.high 2048 then 1 else 2)) 11

abbrev pub is_short : Row → Bool
is_short r = is_few r false && is_few r true

abbrev pub is_shaped : Row → Bool
is_shaped r = is_placed r && has_one_tail r && is_keyed r && is_short r

all_shaped : list_all is_shaped opcode_rows ≡ true
unfolding tail_length
all_shaped = refl

-- what each row of the table has
pub record Shaped (r : Row) : Type 0 where
  pub placed : is_placed r ≡ true
  pub single : has_one_tail r ≡ true
  pub keyed : is_keyed r ≡ true
  pub short : is_short r ≡ true

pub has_shape : (r : Row) → Contains opcode_rows r → Shaped r
has_shape r c =
    let h : is_shaped r ≡ true = All-contains (λ x. is_shaped x ≡ true) opcode_rows r (AllPass-from_list_all is_shaped opcode_rows all_shaped) c in
    let p = and_parts (is_placed r && has_one_tail r && is_keyed r) (is_short r) h in
    let q = and_parts (is_placed r && has_one_tail r) (is_keyed r) p.0 in
    let t = and_parts (is_placed r) (has_one_tail r) q.0 in
    record { placed = t.0; single = t.1; keyed = q.1; short = p.1 }

-- how many bytes its parts but the prefixes have at most
pub few_bytes : (r : Row) (narrow : Bool) → Shaped r → tail_length r narrow + cond (has_modrm r) 6 0 + cond (nat_lt r.high 2048) 1 2 ≤ 11
few_bytes r true s = leb-true _ 11 (and_parts (is_few r false) (is_few r true) s.short).1
few_bytes r false s = leb-true _ 11 (and_parts (is_few r false) (is_few r true) s.short).0

-- a row with a ModRM byte has no operand in the opcode's low three bits
high_by : (is_low with : Bool) (x y : Bool) → cond is_low (x && not with) y ≡ true → with ≡ true → is_low ≡ false
high_by false with x y h e = refl
high_by true true true y h e = cc
high_by true true false y h e = cc
high_by true false x y h e = cc

pub no_low : (r : Row) → Shaped r → has_modrm r ≡ true → is_low r.first || is_low r.second ≡ false
no_low r s e = high_by (is_low r.first || is_low r.second) (has_modrm r) (r.low / 64 == r.high / 64) (r.low / 8 == r.high / 8 || (not (has_modrm r) && nat_lt r.high 2048)) s.keyed e

spread_by : (is_low x with y : Bool) → cond is_low (x && not with) y ≡ true → is_low ≡ true → x ≡ true
spread_by true true with y h e = refl
spread_by true false with y h e = cc
spread_by false x with y h e = cc

-- a row with one has eight opcodes that differ in them alone
pub eight : (r : Row) → Shaped r → is_low r.first || is_low r.second ≡ true → r.low / 64 ≡ r.high / 64
eight r s e = eqb-true (r.low / 64) (r.high / 64) (spread_by (is_low r.first || is_low r.second) (r.low / 64 == r.high / 64) (has_modrm r) (r.low / 8 == r.high / 8 || (not (has_modrm r) && nat_lt r.high 2048)) s.keyed e)

-- what the third operand is not
pub record Third (r : Row) : Type 0 where
  pub middle : is_middle r.third ≡ false
  pub low : is_low r.third ≡ false
  pub plain : is_plain r.third ≡ false

pub third_is : (r : Row) → is_placed r ≡ true → Third r
third_is r h =
    let p = and_parts _ _ (and_parts _ _ h).0 in
    let q = and_parts (not (is_place r.third) && not (is_middle r.third) && not (is_low r.third)) (not (is_plain r.third)) p.1 in
    let t = and_parts (not (is_place r.third) && not (is_middle r.third)) (not (is_low r.third)) q.0 in
    let u = and_parts (not (is_place r.third)) (not (is_middle r.third)) t.0 in
    record { middle = not-true (is_middle r.third) u.1; low = not-true (is_low r.third) t.1; plain = not-true (is_plain r.third) q.1 }

-- an operand that is there
abbrev pub Present : Option Arg → Type 0
Present o = (v : Arg) × (o ≡ Some v)

pub present_operand : (f : Fields) (w : Width) (bs : List ℕ) (x : Operand) → is_absent x ≡ false → (is_place x ≡ true → Present f.place) → Present (operand_value f w bs x)
present_operand f w bs Absent h p = cc
present_operand f w bs E h p = p refl
present_operand f w bs M h p = p refl
present_operand f w bs R h p = p refl
present_operand f w bs G h p = (_, refl)
present_operand f w bs S h p = (_, refl)
present_operand f w bs Low h p = (_, refl)
present_operand f w bs I h p = (_, refl)
present_operand f w bs Ib h p = (_, refl)
present_operand f w bs Iw h p = (_, refl)
present_operand f w bs SignedByte h p = (_, refl)
present_operand f w bs Jb h p = (_, refl)
present_operand f w bs J h p = (_, refl)
present_operand f w bs O h p = (_, refl)
present_operand f w bs A h p = (_, refl)
present_operand f w bs X h p = (_, refl)
present_operand f w bs Table h p = (_, refl)
present_operand f w bs Eax h p = (_, refl)
present_operand f w bs Cl h p = (_, refl)
present_operand f w bs Dx h p = (_, refl)
present_operand f w bs One h p = (_, refl)
present_operand f w bs Es h p = (_, refl)
present_operand f w bs Cs h p = (_, refl)
present_operand f w bs Ss h p = (_, refl)
present_operand f w bs Ds h p = (_, refl)
present_operand f w bs Fs h p = (_, refl)
present_operand f w bs Gs h p = (_, refl)
present_operand f w bs Cr0 h p = (_, refl)

-- the middle bits are those of the operand that has them
pub middle_said : (f : Fields) (w : Width) (bs : List ℕ) (x : Operand) (v : Arg) → is_middle x ≡ true → f.middle < 8 → operand_value f w bs x ≡ Some v → register v ≡ f.middle
middle_said f w bs Absent v h k e = cc
middle_said f w bs E v h k e = cc
middle_said f w bs M v h k e = cc
middle_said f w bs R v h k e = cc
middle_said f w bs G v h k e = (let s : v ≡ Reg f.middle = cc in rw s (omega arith))
middle_said f w bs S v h k e = (let s : v ≡ Seg f.middle = cc in rw s (omega arith))
middle_said f w bs Low v h k e = cc
middle_said f w bs I v h k e = cc
middle_said f w bs Ib v h k e = cc
middle_said f w bs Iw v h k e = cc
middle_said f w bs SignedByte v h k e = cc
middle_said f w bs Jb v h k e = cc
middle_said f w bs J v h k e = cc
middle_said f w bs O v h k e = cc
middle_said f w bs A v h k e = cc
middle_said f w bs X v h k e = cc
middle_said f w bs Table v h k e = cc
middle_said f w bs Eax v h k e = cc
middle_said f w bs Cl v h k e = cc
middle_said f w bs Dx v h k e = cc
middle_said f w bs One v h k e = cc
middle_said f w bs Es v h k e = cc
middle_said f w bs Cs v h k e = cc
middle_said f w bs Ss v h k e = cc
middle_said f w bs Ds v h k e = cc
middle_said f w bs Fs v h k e = cc
middle_said f w bs Gs v h k e = cc
middle_said f w bs Cr0 v h k e = cc

pub low_said : (f : Fields) (w : Width) (bs : List ℕ) (x : Operand) (v : Arg) → is_low x ≡ true → operand_value f w bs x ≡ Some v → register v ≡ f.opcode % 8
low_said f w bs Absent v h e = cc
low_said f w bs E v h e = cc
low_said f w bs M v h e = cc
low_said f w bs R v h e = cc
low_said f w bs G v h e = cc
low_said f w bs S v h e = cc
low_said f w bs Low v h e = (let s : v ≡ Reg (f.opcode % 8) = cc in rw s (omega arith))
low_said f w bs I v h e = cc
low_said f w bs Ib v h e = cc
low_said f w bs Iw v h e = cc
low_said f w bs SignedByte v h e = cc
low_said f w bs Jb v h e = cc
low_said f w bs J v h e = cc
low_said f w bs O v h e = cc
low_said f w bs A v h e = cc
low_said f w bs X v h e = cc
low_said f w bs Table v h e = cc
low_said f w bs Eax v h e = cc
low_said f w bs Cl v h e = cc
low_said f w bs Dx v h e = cc
low_said f w bs One v h e = cc
low_said f w bs Es v h e = cc
low_said f w bs Cs v h e = cc
low_said f w bs Ss v h e = cc
low_said f w bs Ds v h e = cc
low_said f w bs Fs v h e = cc
low_said f w bs Gs v h e = cc
low_said f w bs Cr0 v h e = cc

pub place_said : (f : Fields) (w : Width) (bs : List ℕ) (x : Operand) → is_place x ≡ true → operand_value f w bs x ≡ f.place
place_said f w bs Absent h = cc
place_said f w bs E h = refl
place_said f w bs M h = refl
place_said f w bs R h = refl
place_said f w bs G h = cc
place_said f w bs S h = cc
place_said f w bs Low h = cc
place_said f w bs I h = cc
place_said f w bs Ib h = cc
place_said f w bs Iw h = cc
place_said f w bs SignedByte h = cc
place_said f w bs Jb h = cc
place_said f w bs J h = cc
place_said f w bs O h = cc
place_said f w bs A h = cc
place_said f w bs X h = cc
place_said f w bs Table h = cc
place_said f w bs Eax h = cc
place_said f w bs Cl h = cc
place_said f w bs Dx h = cc
place_said f w bs One h = cc
place_said f w bs Es h = cc
place_said f w bs Cs h = cc
place_said f w bs Ss h = cc
place_said f w bs Ds h = cc
place_said f w bs Fs h = cc
place_said f w bs Gs h = cc
place_said f w bs Cr0 h = cc

-- each memory operand names this segment register
abbrev pub Names : Option ℕ → Option Arg → Type 0
Names seg (Some (Mem a)) = a.seg ≡ seg
Names seg _ = Unit {0}

pub names : (f : Fields) (w : Width) (bs : List ℕ) (x : Operand) → Names f.prefixes.seg f.place → Names f.prefixes.seg (operand_value f w bs x)
names f w bs Absent p = tt
names f w bs E p = p
names f w bs M p = p
names f w bs R p = p
names f w bs G p = tt
names f w bs S p = tt
names f w bs Low p = tt
names f w bs I p = tt
names f w bs Ib p = tt
names f w bs Iw p = tt
names f w bs SignedByte p = tt
names f w bs Jb p = tt
names f w bs J p = tt
names f w bs O p = refl
names f w bs A p = tt
names f w bs X p = refl
names f w bs Table p = refl
names f w bs Eax p = tt
names f w bs Cl p = tt
names f w bs Dx p = tt
names f w bs One p = tt
names f w bs Es p = tt
names f w bs Cs p = tt
names f w bs Ss p = tt
names f w bs Ds p = tt
names f w bs Fs p = tt
names f w bs Gs p = tt
names f w bs Cr0 p = tt
