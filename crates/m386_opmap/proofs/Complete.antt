-- What is spelled is read, whatever follows it.
use Rattle.std.specs.Prelude.{◌==◌, is_some, Contains}
use Rattle.std.proofs.Common.{◌≡◌, ℕ, ◌+◌, ◌-◌, ◌*◌, ◌<◌, ◌≤◌, ◌≢◌, inl, inr, List, [], ◌∷◌, ◌++◌, length, refl, sym, ◌∙◌, ap, cond, Bool, true, false, ◌&&◌, ◌||◌, not, nat_le, nat_lt, Option, Some, None, arith, subst, length-append, append_assoc}
use Rattle.std.specs.List.{find}
use Rattle.std.proofs.lemmas.Bool.{cases_Bool, and_parts, and_from, leb-true, le-leb, le-ltb, lt-ltb, eq-eqb, ne_eqb}
use Rattle.std.proofs.lemmas.List.{take_at, drop_at}
use Rattle.m386_opmap.specs.declared.fields.Prefixes.{Prefixes}
use Rattle.m386_opmap.specs.declared.fields.Fields.{Fields}
use Rattle.m386_opmap.specs.declared.op.Addr.{Addr}
use Rattle.m386_opmap.specs.declared.op.Arg.{Arg}
use Rattle.m386_opmap.specs.declared.op.Arg.TheVariants.{Reg, Mem}
use Rattle.m386_opmap.specs.declared.op.Op.{Op}
use Rattle.m386_opmap.specs.declared.outcome.Reading.TheVariants.{Spelled}
use Rattle.m386_opmap.specs.declared.row.Row.{Row}
use Rattle.m386_opmap.specs.Forms.{Form, absent, register, based, indexed, top_bits, middle_bits, low, displacement, displacement_length, base_of, index_of, scale_of}
use Rattle.m386_opmap.specs.Operands.{has_modrm, suits, is_memory, wants_memory, wants_register, tail_length, operation}
use Rattle.m386_opmap.specs.Prefix.{is_prefix, no_prefixes, prefixes_of}
use Rattle.m386_opmap.specs.Readings.{tail_reading, displaced_reading, sib_reading, form_reading, modrm_reading, begun_reading, opcode_reading, second_reading, first_reading, prefixed_reading, reading_by, with_place}
use Rattle.m386_opmap.specs.Rows.{row_at, row_of, covers_key, begins, Covers}
use Rattle.m386_opmap.specs.Spelling.{SpelledBy, opcode_bytes}
use Rattle.m386_opmap.proofs.Lawful.{Lawful, lawful_row, begins_from, begins_like, IsOpcode, byte, pair, opcode_of_row}
use Rattle.m386_opmap.proofs.Prefixing.{prefixed_walk, said_after-none}
use Rattle.m386_opmap.proofs.Table.{one_covers, search_finds}

-- the bytes behind opcode and ModRM
pub tail_walk : (r : Row) (f : Fields) (at end : ℕ) (tail rest : List ℕ) → length tail ≡ tail_length r f.prefixes.narrow → end ≡ at + length tail →
    tail_reading r f at (tail ++ rest) ≡ Spelled (operation r f tail) end
unfolding tail_reading
tail_walk r f at end tail rest h e =
    let n : ℕ = tail_length r f.prefixes.narrow in
    let long : n ≤ length (tail ++ rest) = omega (arith, h, length-append tail rest) in
    rw (le-ltb (length (tail ++ rest)) n long, take_at tail rest n h, ← h, e) refl

-- a displacement
pub displaced_walk : (r : Row) (f : Fields) (address : Addr) (n at end : ℕ) (ds bytes : List ℕ) → length ds ≡ n → end ≡ at + length ds →
    displaced_reading r f address n at (ds ++ bytes) ≡ tail_reading r (with_place f (Mem (record address { disp = displacement ds }))) end bytes
unfolding displaced_reading
displaced_walk r f address n at end ds bytes h e =
    let long : n ≤ length (ds ++ bytes) = omega (arith, h, length-append ds bytes) in
    rw (le-ltb (length (ds ++ bytes)) n long, take_at ds bytes n h, drop_at ds bytes n h, ← h, e) refl

module _ (r : Row) (f : Fields) (at : ℕ) where
  form_register : (m : ℕ) (bytes : List ℕ) → top_bits m ≡ 3 → form_reading r f m at bytes ≡ tail_reading r (with_place f (Reg (low m))) at bytes
  unfolding form_reading
  form_register m bytes h = rw (eq-eqb (top_bits m) 3 h) refl

  form_based : (m : ℕ) (bytes : List ℕ) → top_bits m ≢ 3 → low m ≢ 4 →
      form_reading r f m at bytes ≡ displaced_reading r f (record { seg = f.prefixes.seg; base = base_of (top_bits m) (low m); index = None; scale = 1; disp = 0 }) (displacement_length (top_bits m) (low m)) at bytes
  unfolding form_reading
  form_based m bytes h k = rw (ne_eqb (top_bits m) 3 h) (rw (ne_eqb (low m) 4 k) refl)

  form_indexed : (m s : ℕ) (bytes : List ℕ) → top_bits m ≢ 3 → low m ≡ 4 →
      form_reading r f m at (s ∷ bytes) ≡ displaced_reading r f (record { seg = f.prefixes.seg; base = base_of (top_bits m) (low s); index = index_of s; scale = scale_of s; disp = 0 }) (displacement_length (top_bits m) (low s)) (at + 1) bytes
  unfolding form_reading sib_reading
  form_indexed m s bytes h k = rw (ne_eqb (top_bits m) 3 h) (rw (eq-eqb (low m) 4 k) refl)

-- a ModRM byte of a row that takes it
modrm_select : (rows : List Row) (said : Prefixes) (o at m : ℕ) (bytes : List ℕ) (r : Row) → row_at (8 * o + middle_bits m) rows ≡ Some r →
    suits r said.lock (not (top_bits m == 3)) ≡ true →
    modrm_reading rows said o at (m ∷ bytes) ≡ form_reading r (record { prefixes = said; opcode = o; middle = middle_bits m; place = None }) m (at + 1) bytes
unfolding modrm_reading
modrm_select rows said o at m bytes r e s = rw e (rw s refl)

-- what the ModRM byte names
pub modrm_walk : (rows : List Row) (said : Prefixes) (o at end : ℕ) (modrm bytes : List ℕ) (mid : ℕ) (place : Option Arg) (r : Row) →
    Form said.seg modrm mid place → is_some place ≡ true → row_at (8 * o + mid) rows ≡ Some r → suits r said.lock (is_memory place) ≡ true → end ≡ at + length modrm →
    modrm_reading rows said o at (modrm ++ bytes) ≡ tail_reading r (record { prefixes = said; opcode = o; middle = mid; place = place }) end bytes
modrm_walk rows said o at end modrm bytes mid place r absent p e s l = cc
modrm_walk rows said o at end modrm bytes mid place r (register m h) p e s l =
    let test : suits r said.lock (not (top_bits m == 3)) ≡ true = rw (eq-eqb (top_bits m) 3 h) s in
    rw l (modrm_select rows said o at m bytes r e test ∙ form_register r _ (at + 1) m bytes h)
modrm_walk rows said o at end modrm bytes mid place r (based m ds h k n) p e s l =
    let test : suits r said.lock (not (top_bits m == 3)) ≡ true = rw (ne_eqb (top_bits m) 3 h) s in
    modrm_select rows said o at m (ds ++ bytes) r e test
    ∙ form_based r _ (at + 1) m (ds ++ bytes) h k
    ∙ displaced_walk r _ _ _ (at + 1) end ds bytes n (omega (arith, l))
modrm_walk rows said o at end modrm bytes mid place r (indexed m s ds h k n) p e t l =
    let test : suits r said.lock (not (top_bits m == 3)) ≡ true = rw (ne_eqb (top_bits m) 3 h) t in
    modrm_select rows said o at m (s ∷ ds ++ bytes) r e test
    ∙ form_indexed r _ (at + 1) m s (ds ++ bytes) h k
    ∙ displaced_walk r _ _ _ (at + 1 + 1) end ds bytes n (omega (arith, l))

-- a byte that is no prefix
pub prefixed_first : (rows : List Row) (said : Prefixes) (at b : ℕ) (bytes : List ℕ) → is_prefix b ≡ false →
    prefixed_reading rows said at (b ∷ bytes) ≡ first_reading rows said b at bytes
unfolding prefixed_reading
prefixed_first rows said at b bytes h = rw h refl

pub first_byte : (rows : List Row) (said : Prefixes) (at b : ℕ) (bytes : List ℕ) → (b == 0x0f) ≡ false →
    first_reading rows said b at bytes ≡ opcode_reading rows said b at bytes
unfolding first_reading
first_byte rows said at b bytes h = rw h refl

pub first_pair : (rows : List Row) (said : Prefixes) (at b : ℕ) (bytes : List ℕ) →
    first_reading rows said 0x0f at (b ∷ bytes) ≡ opcode_reading rows said (0xf00 + b) (at + 1) bytes
unfolding first_reading second_reading
first_pair rows said at b bytes = refl

pub escape_is_no_prefix : is_prefix 0x0f ≡ false
unfolding is_prefix
escape_is_no_prefix = refl

-- an opcode
pub opcode_walk : (rows : List Row) (said : Prefixes) (at end o : ℕ) (bytes : List ℕ) → IsOpcode o → end + 1 ≡ at + length (opcode_bytes o) →
    prefixed_reading rows said at (opcode_bytes o ++ bytes) ≡ opcode_reading rows said o end bytes
opcode_walk rows said at end o bytes (byte h p q) e =
    let i = rw (lt-ltb o 256 h) at e in
    let same : at ≡ end = omega (arith, i) in
    rw (lt-ltb o 256 h) (prefixed_first rows said at o bytes p ∙ first_byte rows said at o bytes q ∙ ap (λ n. opcode_reading rows said o n bytes) same)
opcode_walk rows said at end o bytes (pair h k) e =
    let long : 256 ≤ o = omega arith in
    let i = rw (le-ltb o 256 long) at e in
    let same : at + 1 ≡ end = omega (arith, i) in
    let number : 0xf00 + (o - 0xf00) ≡ o = omega arith in
    rw (le-ltb o 256 long) (prefixed_first rows said at 0x0f ((o - 0xf00) ∷ bytes) escape_is_no_prefix
    ∙ first_pair rows said at (o - 0xf00) bytes
    ∙ ap (λ n. opcode_reading rows said n (at + 1) bytes) number
    ∙ ap (λ n. opcode_reading rows said o n bytes) same)

-- the middle bits are three
pub form_middle : {seg : Option ℕ} {modrm : List ℕ} {mid : ℕ} {place : Option Arg} → Form seg modrm mid place → mid < 8
form_middle absent = omega arith
form_middle (register m h) = omega arith
form_middle (based m ds h k n) = omega arith
form_middle (indexed m s ds h k n) = omega arith

-- without a ModRM byte there are no bytes and no middle bits
pub form_absent : {seg : Option ℕ} {modrm : List ℕ} {mid : ℕ} {place : Option Arg} → Form seg modrm mid place → is_some place ≡ false →
    (modrm ≡ []) × (mid ≡ 0) × (place ≡ None)
form_absent absent h = (refl, refl, refl)
form_absent (register m h) k = cc
form_absent (based m ds h k n) l = cc
form_absent (indexed m s ds h k n) l = cc

takes_lock : (lock a b : Bool) → not lock || a && b ≡ true → not lock || a ≡ true
takes_lock true true b h = refl
takes_lock true false b h = h
takes_lock false a b h = refl

-- a row that suits takes LOCK
pub suits_lock : (r : Row) (lock memory : Bool) → suits r lock memory ≡ true → not lock || r.lock ≡ true
suits_lock r lock memory h =
    takes_lock lock r.lock memory (and_parts _ (not (wants_memory r) || memory) (and_parts ((not lock || r.lock && memory) && (not (wants_memory r) || memory)) (not (wants_register r) || not memory) h).0).0

-- the row of a key
pub row_at_row : (rows : List Row) (r : Row) (key : ℕ) → Lawful rows → Contains rows r → Covers r key → row_at key rows ≡ Some r
unfolding row_at
row_at_row rows r key law c k =
    let f = search_finds (covers_key key) rows r c (and_from (nat_le r.low key) (nat_le key r.high) (le-leb r.low key k.0) (le-leb key r.high k.1)) in
    let p = and_parts (nat_le f.row.low key) (nat_le key f.row.high) f.passes in
    f.found ∙ ap Some (one_covers 0 rows f.row r key law.rise f.listed c (leb-true f.row.low key p.0, leb-true key f.row.high p.1) k)

-- the row that an opcode begins with
pub begun_select : (rows : List Row) (said : Prefixes) (o at : ℕ) (bytes : List ℕ) (s : Row) → find (begins said.lock o) rows ≡ Some s →
    opcode_reading rows said o at bytes ≡ begun_reading (Some s) rows said o at bytes
unfolding opcode_reading row_of
begun_select rows said o at bytes s e = rw e refl

pub begun_modrm : (rows : List Row) (said : Prefixes) (o at : ℕ) (bytes : List ℕ) (s : Row) → has_modrm s ≡ true →
    begun_reading (Some s) rows said o at bytes ≡ modrm_reading rows said o (at + 1) bytes
begun_modrm rows said o at bytes s h = rw h refl

pub begun_whole : (rows : List Row) (said : Prefixes) (o at : ℕ) (bytes : List ℕ) (s : Row) → has_modrm s ≡ false →
    begun_reading (Some s) rows said o at bytes ≡ tail_reading s (record { prefixes = said; opcode = o; middle = 0; place = None }) (at + 1) bytes
begun_whole rows said o at bytes s h = rw h refl

-- what stands behind an opcode whose last byte has place `at`
module _ (rows : List Row) (law : Lawful rows) (said : Prefixes) (o at end : ℕ) (r : Row) (listed : Contains rows r) (modrm tail rest : List ℕ) (mid : ℕ) (place : Option Arg) where
  behind_modrm : Form said.seg modrm mid place → has_modrm r ≡ is_some place → Covers r (8 * o + mid) → suits r said.lock (is_memory place) ≡ true →
      length tail ≡ tail_length r said.narrow → end ≡ at + 1 + length modrm + length tail → (s : Row) → find (begins said.lock o) rows ≡ Some s →
      has_modrm s ≡ has_modrm r → has_modrm r ≡ true →
      opcode_reading rows said o at (modrm ++ (tail ++ rest)) ≡ Spelled (operation r (record { prefixes = said; opcode = o; middle = mid; place = place }) tail) end
  behind_modrm form wanted covered suited whole e s found alike with =
      begun_select rows said o at (modrm ++ (tail ++ rest)) s found
      ∙ begun_modrm rows said o at (modrm ++ (tail ++ rest)) s (alike ∙ with)
      ∙ modrm_walk rows said o (at + 1) (at + 1 + length modrm) modrm (tail ++ rest) mid place r form (sym wanted ∙ with) (row_at_row rows r (8 * o + mid) law listed covered) suited refl
      ∙ tail_walk r _ (at + 1 + length modrm) end tail rest whole e

  behind_whole : Form said.seg modrm mid place → has_modrm r ≡ is_some place →
      length tail ≡ tail_length r said.narrow → end ≡ at + 1 + length modrm + length tail → (s : Row) → find (begins said.lock o) rows ≡ Some s →
      s ≡ r → has_modrm r ≡ false →
      opcode_reading rows said o at (modrm ++ (tail ++ rest)) ≡ Spelled (operation r (record { prefixes = said; opcode = o; middle = mid; place = place }) tail) end
  behind_whole form wanted whole e s found same without =
      let none = form_absent form (sym wanted ∙ without) in
      let Q : Row → Type 0 = λ x. find (begins said.lock o) rows ≡ Some x in
      let l = rw none.0 at e in
      rw (none.0, none.1, none.2) (begun_select rows said o at (tail ++ rest) r (subst Q same found)
      ∙ begun_whole rows said o at (tail ++ rest) r without
      ∙ tail_walk r _ (at + 1) end tail rest whole (omega (arith, l)))

  behind_opcode : Form said.seg modrm mid place → has_modrm r ≡ is_some place → Covers r (8 * o + mid) → suits r said.lock (is_memory place) ≡ true →
      length tail ≡ tail_length r said.narrow → end ≡ at + 1 + length modrm + length tail →
      opcode_reading rows said o at (modrm ++ (tail ++ rest)) ≡ Spelled (operation r (record { prefixes = said; opcode = o; middle = mid; place = place }) tail) end
  behind_opcode form wanted covered suited whole e =
      let lock = suits_lock r said.lock (is_memory place) suited in
      let found = search_finds (begins said.lock o) rows r listed (begins_from said.lock o mid r (form_middle form) covered lock) in
      let like = begins_like rows said.lock o mid r found.row law listed found.listed (form_middle form) covered found.passes in
      elim (cases_Bool (has_modrm r)) [
        | inl with ↦ behind_modrm form wanted covered suited whole e found.row found.found like.alike with
        | inr without ↦ behind_whole form wanted whole e found.row found.found (like.same without) without
      ]

regrouped : (a b c d e : List ℕ) → (a ++ (b ++ (c ++ d))) ++ e ≡ a ++ (b ++ (c ++ (d ++ e)))
regrouped a b c d e = simp append_assoc

lengths : (a b c d : List ℕ) → length (a ++ (b ++ (c ++ d))) ≡ length a + (length b + (length c + length d))
lengths a b c d = simp length-append

opcode_length : (o : ℕ) → 0 < length (opcode_bytes o)
opcode_length o = go (nat_lt o 256)
  where
    go : (b : Bool) → 0 < length (cond b (o ∷ []) (0x0f ∷ (o - 0xf00) ∷ []))
    go true = omega arith
    go false = omega arith

-- What is spelled by a lawful table is read by it, whatever follows.
pub complete : (rows : List Row) (op : Op) (bytes rest : List ℕ) → Lawful rows → SpelledBy rows op bytes →
    reading_by rows (bytes ++ rest) ≡ Spelled op (length bytes)
unfolding reading_by
complete rows op bytes rest law s =
    let said : Prefixes = prefixes_of s.prefixes in
    let o : ℕ = s.opcode in
    let at : ℕ = length s.prefixes + length (opcode_bytes o) - 1 in
    let behind : List ℕ = s.modrm ++ (s.tail ++ rest) in
    let small : s.middle < 8 = form_middle s.form in
    let opcode : IsOpcode o = opcode_of_row o s.row (lawful_row rows s.row law s.listed) (begins_from false o s.middle s.row small s.covered refl) in
    let some : 0 < length (opcode_bytes o) = opcode_length o in
    let whole : length bytes ≡ length s.prefixes + (length (opcode_bytes o) + (length s.modrm + length s.tail)) = ap length s.parts ∙ lengths s.prefixes (opcode_bytes o) s.modrm s.tail in
    let first : prefixed_reading rows no_prefixes 0 (bytes ++ rest) ≡ prefixed_reading rows no_prefixes 0 (s.prefixes ++ (opcode_bytes o ++ behind)) =
    ap (λ b. prefixed_reading rows no_prefixes 0 b) (ap (λ b. b ++ rest) s.parts ∙ regrouped s.prefixes (opcode_bytes o) s.modrm s.tail rest) in
    first
    ∙ prefixed_walk rows no_prefixes 0 (length s.prefixes) s.prefixes (opcode_bytes o ++ behind) s.are_prefixes (omega arith)
    ∙ ap (λ p. prefixed_reading rows p (length s.prefixes) (opcode_bytes o ++ behind)) (said_after-none s.prefixes)
    ∙ opcode_walk rows said (length s.prefixes) at o behind opcode (omega (arith, some))
    ∙ behind_opcode rows law said o at (length bytes) s.row s.listed s.modrm s.tail rest s.middle s.place s.form s.wanted s.covered s.suited s.whole (omega (arith, some, whole))
    ∙ ap (λ x. Spelled x (length bytes)) (sym s.spelled)
