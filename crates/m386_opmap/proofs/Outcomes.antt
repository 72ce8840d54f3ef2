-- What bytes read as, from the ModRM byte back to the first prefix.
use Rattle.std.specs.Prelude.{◌==◌, is_some, Contains, replicate}
use Rattle.std.specs.List.{All}
use Rattle.std.proofs.Common.{◌≡◌, ℕ, ◌+◌, ◌*◌, ◌/◌, ◌%◌, ◌<◌, ◌≤◌, inl, inr, List, [], ◌∷◌, ◌++◌, length, refl, sym, ◌∙◌, ap, Bool, true, false, ◌&&◌, ◌||◌, not, nat_le, Option, Some, None, arith, subst, append_assoc}
use Rattle.std.proofs.lemmas.Bool.{cases_Bool, cond_both, and_parts, leb-true, eqb-true}
use Rattle.std.proofs.lemmas.List.{append-nil, length-replicate}
use Rattle.std.proofs.lemmas.List.Elements.{All-append, All-cons}
use Rattle.m386_opmap.specs.declared.fields.Fields.{Fields}
use Rattle.m386_opmap.specs.declared.op.Arg.{Arg}
use Rattle.m386_opmap.specs.declared.op.Arg.TheVariants.{Reg, Mem}
use Rattle.m386_opmap.specs.declared.outcome.Reading.TheVariants.{More, Refused}
use Rattle.m386_opmap.specs.declared.row.Row.{Row}
use Rattle.m386_opmap.specs.Forms.{Form, register, based, top_bits, middle_bits, low, base_of}
use Rattle.m386_opmap.specs.Operands.{has_modrm, suits, is_memory, wants_memory, wants_register, tail_length, operation}
use Rattle.m386_opmap.specs.Prefix.{is_prefix, prefixes_of}
use Rattle.m386_opmap.specs.Readings.{form_reading, selected_reading, modrm_reading, reading_by}
use Rattle.m386_opmap.specs.Rows.{row_at, covers_key, begins, Covers}
use Rattle.m386_opmap.specs.Spelling.{SpelledBy, opcode_bytes}
use Rattle.m386_opmap.proofs.Lawful.{Lawful, lawful_row, selected, begins_like, begins_is_begun}
use Rattle.m386_opmap.proofs.Sound.{AllAreBytes, Outcome, Opens, RefusedAt, spelled_again, outcome_at, bytes_more, length_more, zeros_are_bytes, form_outcome}
use Rattle.m386_opmap.proofs.Table.{found_is, rising_bounds}

-- the fields of an instruction behind its opcode
abbrev pub fields_at : List ℕ → ℕ → ℕ → Option Arg → Fields
fields_at ps o mid place = record { prefixes = prefixes_of ps; opcode = o; middle = mid; place = place }

-- a spelling by a row, from its parts
pub spelled_by : (rows : List Row) (r : Row) (ps : List ℕ) (o : ℕ) (modrm tail : List ℕ) (mid : ℕ) (place : Option Arg) → Contains rows r →
    All (λ p. is_prefix p ≡ true) ps → AllAreBytes ((ps ++ opcode_bytes o) ++ (modrm ++ tail)) → Form (prefixes_of ps).seg modrm mid place →
    has_modrm r ≡ is_some place → Covers r (8 * o + mid) → suits r (prefixes_of ps).lock (is_memory place) ≡ true →
    length tail ≡ tail_length r (prefixes_of ps).narrow →
    SpelledBy rows (operation r (fields_at ps o mid place) tail) ((ps ++ opcode_bytes o) ++ (modrm ++ tail))
spelled_by rows r ps o modrm tail mid place listed prefixes are form wanted covered suited whole =
    record {
      row = r;
      listed = listed;
      prefixes = ps;
      opcode = o;
      modrm = modrm;
      tail = tail;
      parts = append_assoc ps (opcode_bytes o) (modrm ++ tail);
      are_bytes = are;
      are_prefixes = prefixes;
      middle = mid;
      place = place;
      form = form;
      wanted = wanted;
      covered = covered;
      suited = suited;
      whole = whole;
      spelled = refl;
    }

suits_memory : (lock l wm wr : Bool) → not lock || l ≡ true → wr ≡ false → (not lock || l && true) && (not wm || true) && (not wr || not true) ≡ true
suits_memory lock l wm true h e = cc
suits_memory true true true false h e = refl
suits_memory true true false false h e = refl
suits_memory true false wm false h e = cc
suits_memory false l true false h e = refl
suits_memory false l false false h e = refl

suits_register : (lock l wm wr : Bool) → not lock || l ≡ true → wr ≡ true → not (wr && (l || wm)) ≡ true → (not lock || l && false) && (not wm || false) && (not wr || not false) ≡ true
suits_register lock l wm false h e g = cc
suits_register lock true wm true h e g = cc
suits_register lock false true true h e g = cc
suits_register true false false true h e g = cc
suits_register false false false true h e g = refl

-- a spelling begins with an opcode that a row with a ModRM byte has
module _ (rows : List Row) (law : Lawful rows) (ps : List ℕ) (prefixes : All (λ p. is_prefix p ≡ true) ps) (o : ℕ) (are : AllAreBytes (ps ++ opcode_bytes o)) (s : Row) (listed : Contains rows s) (begin : begins (prefixes_of ps).lock o s ≡ true) (with : has_modrm s ≡ true) where
  opens_key : (8 * o + s.low % 8 ≡ s.low) × (s.low ≤ s.high)
  opens_key =
      let b = begins_is_begun (prefixes_of ps).lock o s begin in
      let p = and_parts (s.low / 8 == s.high / 8) (not (wants_register s && (s.lock || wants_memory s))) (selected s (lawful_row rows s law listed) with) in
      let same : s.low / 8 ≡ s.high / 8 = eqb-true (s.low / 8) (s.high / 8) p.0 in
      (omega (arith, b.low, b.high, same), (rising_bounds 0 rows s law.rise listed).1)

  opens_with : (m : ℕ) (place : Arg) → m < 256 → middle_bits m ≡ s.low % 8 → Form (prefixes_of ps).seg (m ∷ []) (middle_bits m) (Some place) →
      suits s (prefixes_of ps).lock (is_memory (Some place)) ≡ true → Opens rows (ps ++ opcode_bytes o)
  opens_with m place byte mid form suited =
      let k : ℕ = tail_length s (prefixes_of ps).narrow in
      let fill : AllAreBytes (m ∷ replicate k 0) = All-cons (λ b. b < 256) m (replicate k 0) byte (zeros_are_bytes k) in
      let key = opens_key in
      record {
        op = operation s (fields_at ps o (middle_bits m) (Some place)) (replicate k 0);
        rest = m ∷ replicate k 0;
        spelled = spelled_by rows s ps o (m ∷ []) (replicate k 0) (middle_bits m) (Some place) listed prefixes
            (All-append (λ b. b < 256) (ps ++ opcode_bytes o) (m ∷ replicate k 0) are fill) form with
            (omega (arith, key.0, key.1, mid), omega (arith, key.0, key.1, mid)) suited (length-replicate k 0);
      }

  opens_memory : wants_register s ≡ false → Opens rows (ps ++ opcode_bytes o)
  opens_memory e =
      let m : ℕ = 8 * (s.low % 8) in
      let t : top_bits m ≡ 0 = omega arith in
      let l : low m ≡ 0 = omega arith in
      let b = begins_is_begun (prefixes_of ps).lock o s begin in
      opens_with m (Mem (record { seg = (prefixes_of ps).seg; base = base_of (top_bits m) (low m); index = None; scale = 1; disp = _ })) (omega arith) (omega arith)
      (based m [] (omega (arith, t)) (omega (arith, l)) (rw (t, l) refl))
      (suits_memory (prefixes_of ps).lock s.lock (wants_memory s) (wants_register s) b.locked e)

  opens_register : wants_register s ≡ true → Opens rows (ps ++ opcode_bytes o)
  opens_register e =
      let m : ℕ = 192 + 8 * (s.low % 8) in
      let b = begins_is_begun (prefixes_of ps).lock o s begin in
      let p = and_parts (s.low / 8 == s.high / 8) (not (wants_register s && (s.lock || wants_memory s))) (selected s (lawful_row rows s law listed) with) in
      opens_with m (Reg (low m)) (omega arith) (omega arith) (register m (omega arith))
      (suits_register (prefixes_of ps).lock s.lock (wants_memory s) (wants_register s) b.locked e p.1)

  pub opens : Opens rows (ps ++ opcode_bytes o)
  opens = elim (cases_Bool (wants_register s)) [ inl e ↦ opens_register e | inr e ↦ opens_memory e ]

-- a ModRM byte behind an opcode
module _ (rows : List Row) (law : Lawful rows) (ps : List ℕ) (prefixes : All (λ p. is_prefix p ≡ true) ps) (o at : ℕ) (end : at ≡ length (ps ++ opcode_bytes o))
    (reads : (next : List ℕ) → reading_by rows ((ps ++ opcode_bytes o) ++ next) ≡ modrm_reading rows (prefixes_of ps) o at next) where
  nothing_read : reading_by rows (ps ++ opcode_bytes o) ≡ More
  unfolding modrm_reading
  nothing_read = ap (λ x. reading_by rows x) (sym (append-nil (ps ++ opcode_bytes o))) ∙ reads []

  byte_read : (m : ℕ) (next : List ℕ) (found : Option Row) → row_at (8 * o + middle_bits m) rows ≡ found →
      reading_by rows ((ps ++ opcode_bytes o) ++ m ∷ next) ≡ selected_reading found (fields_at ps o (middle_bits m) None) m at next
  unfolding modrm_reading
  byte_read m next found e = reads (m ∷ next) ∙ ap (λ x. selected_reading x (fields_at ps o (middle_bits m) None) m at next) e

  refuses : (m : ℕ) (bytes : List ℕ) → ((next : List ℕ) → reading_by rows ((ps ++ opcode_bytes o) ++ m ∷ next) ≡ Refused at) → RefusedAt rows ((ps ++ opcode_bytes o) ++ m ∷ bytes) at
  refuses m bytes after = record { front = ps ++ opcode_bytes o; byte = m; rest = bytes; parts = refl; size = end; before = nothing_read; after = after }

  selected_outcome : (s : Row) → Contains rows s → begins (prefixes_of ps).lock o s ≡ true → has_modrm s ≡ true → (m : ℕ) (bytes : List ℕ) → AllAreBytes ((ps ++ opcode_bytes o) ++ m ∷ bytes) →
      (found : Option Row) → row_at (8 * o + middle_bits m) rows ≡ found →
      Outcome rows ((ps ++ opcode_bytes o) ++ m ∷ bytes) (selected_reading found (fields_at ps o (middle_bits m) None) m at bytes)
  unfolding row_at
  selected_outcome s listed begin with m bytes are None e = refuses m bytes (λ next. byte_read m next None e)
  selected_outcome s listed begin with m bytes are (Some r) e =
      let c : List ℕ = ps ++ opcode_bytes o in
      let f : Fields = fields_at ps o (middle_bits m) None in
      let lock : Bool = (prefixes_of ps).lock in
      let P : List ℕ → Type 0 = AllAreBytes in
      let is = found_is (covers_key (8 * o + middle_bits m)) rows r e in
      let p = and_parts (nat_le r.low (8 * o + middle_bits m)) (nat_le (8 * o + middle_bits m) r.high) is.passes in
      let covered : Covers r (8 * o + middle_bits m) = (leb-true r.low (8 * o + middle_bits m) p.0, leb-true (8 * o + middle_bits m) r.high p.1) in
      let like = begins_like rows lock o (middle_bits m) r s law is.listed listed (omega arith) covered begin in
      cond_both (suits r lock (not (top_bits m == 3))) (form_reading r f m (at + 1) bytes) (Refused at) (Outcome rows (c ++ m ∷ bytes))
      (λ t. outcome_at rows _ _ _ (bytes_more c m bytes)
      (form_outcome rows (c ++ m ∷ []) (at + 1) r f m (length_more c m at end)
      (λ ms place tail form memory size all. spelled_again rows _ _ _ (sym (bytes_more c m (ms ++ tail)))
      (spelled_by rows r ps o (m ∷ ms) tail (middle_bits m) (Some place) is.listed prefixes (subst P (bytes_more c m (ms ++ tail)) all) form (sym like.alike ∙ with) covered (rw memory t) size))
      bytes (subst P (sym (bytes_more c m bytes)) are)))
      (λ t. refuses m bytes (λ next. byte_read m next (Some r) e ∙ rw t refl))

  pub modrm_outcome : (s : Row) → Contains rows s → begins (prefixes_of ps).lock o s ≡ true → has_modrm s ≡ true → (bytes : List ℕ) → AllAreBytes ((ps ++ opcode_bytes o) ++ bytes) →
      Outcome rows ((ps ++ opcode_bytes o) ++ bytes) (modrm_reading rows (prefixes_of ps) o at bytes)
  unfolding modrm_reading
  modrm_outcome s listed begin with [] are =
      let P : List ℕ → Type 0 = AllAreBytes in
      outcome_at rows _ _ More (sym (append-nil (ps ++ opcode_bytes o))) (opens rows law ps prefixes o (subst P (append-nil (ps ++ opcode_bytes o)) are) s listed begin with)
  modrm_outcome s listed begin with (m ∷ bytes) are = selected_outcome s listed begin with m bytes are (row_at (8 * o + middle_bits m) rows) refl
