-- A search for the rows of an opcode may pass over those that end below it.
use Rattle.std.proofs.Common.{◌≡◌, ℕ, zero, suc, ◌+◌, ◌-◌, ◌*◌, ◌<◌, ◌≤◌, inl, inr, List, [], ◌∷◌, length, get_or, take, drop, refl, ◌∙◌, ap, cond, Bool, true, false, ◌&&◌, not, ◌||◌, nat_le, Option, Some, None, arith}
use Rattle.std.specs.List.{find}
use Rattle.std.proofs.lemmas.Bool.{lt-ltb, le-ltb, lt-leb, cases_lt}
use Rattle.std.proofs.lemmas.List.{take_rest}
use Rattle.m386_opmap.specs.declared.fields.Prefixes.{Prefixes}
use Rattle.m386_opmap.specs.declared.row.Row.{Row}
use Rattle.m386_opmap.specs.Forms.{middle_bits}
use Rattle.m386_opmap.specs.Operands.{has_modrm}
use Rattle.m386_opmap.specs.Readings.{tail_reading, selected_reading, modrm_reading, begun_reading, opcode_reading, second_reading}
use Rattle.m386_opmap.specs.Rows.{row_at, row_of, covers_key, begins, rows_below, counts_from, rows_from}

-- the count at a place
pub counts_at : (opcode n i : ℕ) (rows : List Row) → i < n → get_or (counts_from opcode n rows) i 0 ≡ rows_below (8 * (opcode + i)) rows
unfolding counts_from
counts_at opcode zero i rows h = absurd (omega arith)
counts_at opcode (suc n) zero rows h =
    let e : opcode ≡ opcode + 0 = omega arith in
    ap (λ x. rows_below (8 * x) rows) e
counts_at opcode (suc n) (suc i) rows h =
    let e : opcode + 1 + i ≡ opcode + suc i = omega arith in
    counts_at (opcode + 1) n i rows (omega arith) ∙ ap (λ x. rows_below (8 * x) rows) e

-- no more rows end below a key than there are
pub below_bound : (key : ℕ) (rows : List Row) → rows_below key rows ≤ length rows
unfolding rows_below
below_bound key [] = omega arith
below_bound key (r ∷ rows) =
    elim (cases_lt r.high key) [
      | inl l ↦ rw (lt-ltb r.high key l) (omega (arith, below_bound key rows))
      | inr g ↦ rw (le-ltb r.high key g) (omega arith)
    ]

-- a search whose test fails for the rows that end below a key
find_from : (test : Row → Bool) (key : ℕ) (rows : List Row) → ((r : Row) → r.high < key → test r ≡ false) →
    find test (drop (rows_below key rows) rows) ≡ find test rows
unfolding rows_below
find_from test key [] fails = refl
find_from test key (r ∷ rows) fails =
    elim (cases_lt r.high key) [
      | inl l ↦ rw (lt-ltb r.high key l) (rw (fails r l) (find_from test key rows fails))
      | inr g ↦ rw (le-ltb r.high key g) refl
    ]

fails_second : (a : Bool) → (a && false) ≡ false
fails_second true = refl
fails_second false = refl

fails_middle : (a c : Bool) → (a && false && c) ≡ false
fails_middle true c = refl
fails_middle false c = refl

row_at_from : (opcode mid : ℕ) (rows : List Row) → row_at (8 * opcode + mid) (rows_from opcode rows) ≡ row_at (8 * opcode + mid) rows
unfolding row_at rows_from
row_at_from opcode mid rows =
    find_from (covers_key (8 * opcode + mid)) (8 * opcode) rows
    (λ r low.
    let above : r.high < 8 * opcode + mid = omega arith in
    rw (lt-leb (8 * opcode + mid) r.high above) (fails_second (nat_le r.low (8 * opcode + mid))))

row_of_from : (lock : Bool) (opcode : ℕ) (rows : List Row) → row_of lock opcode (rows_from opcode rows) ≡ row_of lock opcode rows
unfolding row_of rows_from
row_of_from lock opcode rows =
    find_from (begins lock opcode) (8 * opcode) rows
    (λ r low.
    let above : r.high < 8 * opcode = omega arith in
    rw (lt-leb (8 * opcode) r.high above) (fails_middle (nat_le r.low (8 * opcode + 7)) (not lock || r.lock)))

module _ (rows : List Row) (said : Prefixes) (opcode at : ℕ) where
  modrm_from : (at : ℕ) (bytes : List ℕ) → modrm_reading (rows_from opcode rows) said opcode at bytes ≡ modrm_reading rows said opcode at bytes
  unfolding modrm_reading
  modrm_from at [] = refl
  modrm_from at (m ∷ bytes) =
      ap (λ x. selected_reading x (record { prefixes = said; opcode = opcode; middle = middle_bits m; place = None }) m at bytes) (row_at_from opcode (middle_bits m) rows)

  begun_from : (found : Option Row) (bytes : List ℕ) → begun_reading found (rows_from opcode rows) said opcode at bytes ≡ begun_reading found rows said opcode at bytes
  begun_from None bytes = refl
  begun_from (Some r) bytes =
      ap (λ x. cond (has_modrm r) x (tail_reading r (record { prefixes = said; opcode = opcode; middle = 0; place = None }) (at + 1) bytes)) (modrm_from (at + 1) bytes)

  -- what stands behind an opcode reads the same by the rows from it on
  pub opcode_from : (bytes : List ℕ) → opcode_reading (rows_from opcode rows) said opcode at bytes ≡ opcode_reading rows said opcode at bytes
  unfolding opcode_reading
  opcode_from bytes =
      ap (λ x. begun_reading x (rows_from opcode rows) said opcode at bytes) (row_of_from said.lock opcode rows)
      ∙ begun_from (row_of said.lock opcode rows) bytes

-- so do rows that are these
pub opcode_by : (rows part : List Row) (said : Prefixes) (opcode at : ℕ) (bytes : List ℕ) → part ≡ rows_from opcode rows →
    opcode_reading part said opcode at bytes ≡ opcode_reading rows said opcode at bytes
opcode_by rows part said opcode at bytes e = ap (λ x. opcode_reading x said opcode at bytes) e ∙ opcode_from rows said opcode at bytes

-- the second byte of an opcode, in a list that has one
pub second_first : (rows : List Row) (said : Prefixes) (at : ℕ) (bytes : List ℕ) → 1 ≤ length bytes →
    opcode_reading rows said (0xf00 + get_or bytes 0 0) at (take (length bytes - 1) (drop 1 bytes)) ≡ second_reading rows said at bytes
unfolding second_reading
second_first rows said at [] h = absurd (omega arith)
second_first rows said at (b ∷ bytes) h = rw (take_rest (b ∷ bytes) 1) refl

-- the count of the opcode of a byte, behind the first of the opcodes that are counted
module _ (first byte opcode : ℕ) (below : List ℕ) (rows : List Row) (small : byte < 256)
    (is : first + byte ≡ opcode) (counted : below ≡ counts_from first 256 rows) where
  count_is : get_or below byte 0 ≡ rows_below (8 * opcode) rows
  count_is = ap (λ x. get_or x byte 0) counted ∙ counts_at first 256 byte rows small ∙ ap (λ x. rows_below (8 * x) rows) is

  pub count_within : get_or below byte 0 ≤ length rows
  count_within = omega (arith, count_is, below_bound (8 * opcode) rows)

  pub passed_over : drop (get_or below byte 0) rows ≡ rows_from opcode rows
  unfolding rows_from
  passed_over = ap (λ n. drop n rows) count_is
