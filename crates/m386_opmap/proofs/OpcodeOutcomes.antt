-- What bytes read as, from the opcode back to the first byte.
use Rattle.std.specs.Prelude.{is_some, Contains}
use Rattle.std.specs.List.{All}
use Rattle.std.proofs.Common.{◌≡◌, ℕ, ◌+◌, ◌*◌, ◌<◌, inl, inr, List, [], ◌∷◌, ◌++◌, length, refl, sym, ◌∙◌, ap, Bool, true, false, ◌&&◌, ◌||◌, not, nat_le, Option, Some, None, arith, append_assoc}
use Rattle.std.proofs.lemmas.Bool.{cases_Bool, cond_both, and_parts, and_from, or_parts, both_ways}
use Rattle.std.proofs.lemmas.List.Elements.{All-append, All-cons, All-nil, All-push}
use Rattle.m386_opmap.specs.declared.outcome.Reading.TheVariants.{More}
use Rattle.m386_opmap.specs.declared.row.Operand.{Operand}
use Rattle.m386_opmap.specs.declared.row.Operand.TheVariants.{M}
use Rattle.m386_opmap.specs.declared.row.Row.{Row}
use Rattle.m386_opmap.specs.Forms.{absent}
use Rattle.m386_opmap.specs.Operands.{in_modrm, is_memory_alone, has_modrm, wants_memory, wants_register}
use Rattle.m386_opmap.specs.Prefix.{is_prefix, prefixes_of}
use Rattle.m386_opmap.specs.Readings.{modrm_reading, begun_reading, opcode_reading, reading_by, tail_reading}
use Rattle.m386_opmap.specs.Rows.{row_of, begins}
use Rattle.m386_opmap.specs.Spelling.{opcode_bytes}
use Rattle.m386_opmap.proofs.Lawful.{Lawful, lawful_row, whole_row, begins_is_begun}
use Rattle.m386_opmap.proofs.Complete.{begun_modrm}
use Rattle.m386_opmap.proofs.Sound.{AllAreBytes, Outcome, Opens, spelled_again, bytes_more, length_more, tail_outcome}
use Rattle.m386_opmap.proofs.Outcomes.{fields_at, spelled_by, opens, modrm_outcome}
use Rattle.m386_opmap.proofs.Table.{found_is}

memory_in_modrm : (x : Operand) → in_modrm x ≡ false → is_memory_alone x ≡ false
memory_in_modrm M h = cc
memory_in_modrm _ h = refl

-- a row without a ModRM byte wants no memory
no_memory : (r : Row) → has_modrm r ≡ false → wants_memory r ≡ false
no_memory r h =
    let p = or_parts (in_modrm r.first || in_modrm r.second) (in_modrm r.third) h in
    let q = or_parts (in_modrm r.first) (in_modrm r.second) p.0 in
    rw (memory_in_modrm r.first q.0, memory_in_modrm r.second q.1, memory_in_modrm r.third p.1) refl

suits_whole : (lock l wm wr : Bool) → not lock || l ≡ true → l ≡ false → wm ≡ false → (not lock || l && false) && (not wm || false) && (not wr || not false) ≡ true
suits_whole lock true wm wr h e g = cc
suits_whole lock false true wr h e g = cc
suits_whole true false false wr h e g = cc
suits_whole false false false true h e g = refl
suits_whole false false false false h e g = refl

-- an opcode whose last byte is `byte`, behind `front`
module _ (rows : List Row) (law : Lawful rows) (ps : List ℕ) (prefixes : All (λ p. is_prefix p ≡ true) ps) (o at : ℕ) (front : List ℕ) (byte : ℕ)
    (join : front ++ byte ∷ [] ≡ ps ++ opcode_bytes o) (end : at ≡ length front) (before : reading_by rows front ≡ More)
    (reads : (next : List ℕ) → reading_by rows (front ++ byte ∷ next) ≡ opcode_reading rows (prefixes_of ps) o at next) where
  joined : (next : List ℕ) → (ps ++ opcode_bytes o) ++ next ≡ front ++ byte ∷ next
  joined next = ap (λ x. x ++ next) (sym join) ∙ append_assoc front (byte ∷ []) next

  size : at + 1 ≡ length (ps ++ opcode_bytes o)
  size = length_more front byte at end ∙ ap length join

  found_reads : (found : Option Row) → row_of (prefixes_of ps).lock o rows ≡ found → (next : List ℕ) →
      reading_by rows (front ++ byte ∷ next) ≡ begun_reading found rows (prefixes_of ps) o at next
  unfolding opcode_reading
  found_reads found e next = reads next ∙ ap (λ x. begun_reading x rows (prefixes_of ps) o at next) e

  whole_outcome : (s : Row) → Contains rows s → begins (prefixes_of ps).lock o s ≡ true → has_modrm s ≡ false → (bytes : List ℕ) → AllAreBytes ((ps ++ opcode_bytes o) ++ bytes) →
      Outcome rows ((ps ++ opcode_bytes o) ++ bytes) (tail_reading s (fields_at ps o 0 None) (at + 1) bytes)
  whole_outcome s listed begin without bytes are =
      let b = begins_is_begun (prefixes_of ps).lock o s begin in
      let w = whole_row s (lawful_row rows s law listed) without in
      tail_outcome rows (ps ++ opcode_bytes o) (at + 1) s (fields_at ps o 0 None) size
      (λ tail n all. spelled_by rows s ps o [] tail 0 None listed prefixes all absent without
      (omega (arith, b.low, w.from), omega (arith, b.high))
      (suits_whole (prefixes_of ps).lock s.lock (wants_memory s) (wants_register s) b.locked w.unlocked (no_memory s without)) n)
      bytes are

  begun_outcome : (found : Option Row) → row_of (prefixes_of ps).lock o rows ≡ found → (bytes : List ℕ) → AllAreBytes ((ps ++ opcode_bytes o) ++ bytes) →
      Outcome rows ((ps ++ opcode_bytes o) ++ bytes) (begun_reading found rows (prefixes_of ps) o at bytes)
  unfolding row_of
  begun_outcome None e bytes are =
      record { front = front; byte = byte; rest = bytes; parts = joined bytes; size = end; before = before; after = λ next. found_reads None e next }
  begun_outcome (Some s) e bytes are =
      let is = found_is (begins (prefixes_of ps).lock o) rows s e in
      cond_both (has_modrm s) (modrm_reading rows (prefixes_of ps) o (at + 1) bytes) (tail_reading s (fields_at ps o 0 None) (at + 1) bytes) (Outcome rows ((ps ++ opcode_bytes o) ++ bytes))
      (λ t. modrm_outcome rows law ps prefixes o (at + 1) size
      (λ next. ap (λ x. reading_by rows x) (joined next) ∙ found_reads (Some s) e next ∙ begun_modrm rows (prefixes_of ps) o at next s t)
      s is.listed is.passes t bytes are)
      (λ t. whole_outcome s is.listed is.passes t bytes are)

  pub opcode_outcome : (bytes : List ℕ) → AllAreBytes ((ps ++ opcode_bytes o) ++ bytes) →
      Outcome rows ((ps ++ opcode_bytes o) ++ bytes) (opcode_reading rows (prefixes_of ps) o at bytes)
  unfolding opcode_reading
  opcode_outcome bytes are = begun_outcome (row_of (prefixes_of ps).lock o rows) refl bytes are

-- a row that takes LOCK takes any prefixes
any_lock : (lock : Bool) (o : ℕ) (r : Row) → begins true o r ≡ true → begins lock o r ≡ true
any_lock true o r h = h
any_lock false o r h =
    let p = and_parts (nat_le r.low (8 * o + 7) && nat_le (8 * o) r.high) (not true || r.lock) h in
    and_from (nat_le r.low (8 * o + 7) && nat_le (8 * o) r.high) (not false || r.lock) p.0 refl

some_row : (o : Option Row) → is_some o ≡ true → (r : Row) × (o ≡ Some r)
some_row None h = cc
some_row (Some r) h = (r, refl)

-- an opcode of a row with LOCK begins a spelling
opens_locked : (rows : List Row) (law : Lawful rows) (ps : List ℕ) (prefixes : All (λ p. is_prefix p ≡ true) ps) (o : ℕ) → AllAreBytes (ps ++ opcode_bytes o) →
    is_some (row_of true o rows) ≡ true → Opens rows (ps ++ opcode_bytes o)
unfolding row_of
opens_locked rows law ps prefixes o are h =
    let f = some_row (row_of true o rows) h in
    let is = found_is (begins true o) rows f.0 f.1 in
    let b = begins_is_begun true o f.0 is.passes in
    elim (cases_Bool (has_modrm f.0)) [
      | inl with ↦ opens rows law ps prefixes o are f.0 is.listed (any_lock (prefixes_of ps).lock o f.0 is.passes) with
      | inr without ↦ absurd (both_ways f.0.lock (whole_row f.0 (lawful_row rows f.0 law is.listed) without).unlocked b.locked)
    ]

-- where a spelling begins with more bytes, it begins with these
opens_front : (rows : List Row) (bytes more whole : List ℕ) → bytes ++ more ≡ whole → Opens rows whole → Opens rows bytes
opens_front rows bytes more whole e o =
    record { op = o.op; rest = more ++ o.rest; spelled = spelled_again rows _ _ _ (ap (λ x. x ++ o.rest) (sym e) ∙ append_assoc bytes more o.rest) o.spelled }

-- prefixes begin a spelling
pub opens_prefixes : (rows : List Row) (law : Lawful rows) (ps : List ℕ) (prefixes : All (λ p. is_prefix p ≡ true) ps) → AllAreBytes ps → Opens rows ps
opens_prefixes rows law ps prefixes are =
    opens_front rows ps (0 ∷ []) (ps ++ 0 ∷ []) refl
    (opens_locked rows law ps prefixes 0 (All-push (λ b. b < 256) ps 0 are (omega arith)) law.opens)

-- and so does the byte 0F behind them
pub opens_escape : (rows : List Row) (law : Lawful rows) (ps : List ℕ) (prefixes : All (λ p. is_prefix p ≡ true) ps) → AllAreBytes ps → Opens rows (ps ++ 0x0f ∷ [])
opens_escape rows law ps prefixes are =
    opens_front rows (ps ++ 0x0f ∷ []) (0xab ∷ []) (ps ++ 0x0f ∷ 0xab ∷ []) (bytes_more ps 0x0f (0xab ∷ []))
    (opens_locked rows law ps prefixes 0xfab
    (All-append (λ b. b < 256) ps (0x0f ∷ 0xab ∷ []) are (All-cons (λ b. b < 256) 0x0f (0xab ∷ []) (omega arith) (All-cons (λ b. b < 256) 0xab [] (omega arith) (All-nil (λ b. b < 256)))))
    law.opens_second)
