-- What a table whose rows rise has: no two rows for one key, and a search finds the row of a key.
use Rattle.std.proofs.Common.{◌≡◌, ℕ, ◌+◌, ◌≤◌, inl, inr, List, [], ◌∷◌, refl, sym, ◌∙◌, cond, Bool, true, false, ◌&&◌, nat_le, Some, arith, subst}
use Rattle.std.specs.List.{find, Contains}
use Rattle.std.proofs.lemmas.Bool.{and_parts, leb-true}
use Rattle.m386_base.proofs.Members.{contains_cases, contains_first, contains_later}
use Rattle.m386_opmap.specs.declared.row.Row.{Row}
use Rattle.m386_opmap.specs.Opcodes.{opcode_rows}
use Rattle.m386_opmap.specs.Rows.{Covers, rising_from}

-- the bounds of a row in a table that rises
pub rising_bounds : (least : ℕ) (rows : List Row) (r : Row) → rising_from least rows ≡ true → Contains rows r → (least ≤ r.low) × (r.low ≤ r.high)
rising_bounds least [] r h (k, l, e) = absurd (omega arith)
rising_bounds least (s ∷ rows) r h c =
    let p = and_parts (nat_le least s.low && nat_le s.low s.high) (rising_from (s.high + 1) rows) h in
    let q = and_parts (nat_le least s.low) (nat_le s.low s.high) p.0 in
    let low : least ≤ s.low = leb-true least s.low q.0 in
    let high : s.low ≤ s.high = leb-true s.low s.high q.1 in
    elim (contains_cases s rows r c) [
      | inl e ↦ (let P : Row → Type 0 = λ x. (least ≤ x.low) × (x.low ≤ x.high) in subst P e (low, high))
      | inr d ↦ (let b = rising_bounds (s.high + 1) rows r p.1 d in (omega arith, b.1))
    ]

pub one_covers : (least : ℕ) (rows : List Row) (r s : Row) (key : ℕ) → rising_from least rows ≡ true → Contains rows r → Contains rows s → Covers r key → Covers s key → r ≡ s
one_covers least [] r s key h (k, l, e) d f g = absurd (omega arith)
one_covers least (t ∷ rows) r s key h c d f g =
    let p = and_parts (nat_le least t.low && nat_le t.low t.high) (rising_from (t.high + 1) rows) h in
    elim (contains_cases t rows r c) [
      | inl e ↦ elim (contains_cases t rows s d) [
        | inl i ↦ sym e ∙ i
        | inr i ↦ (let b = rising_bounds (t.high + 1) rows s p.1 i in
            let P : Row → Type 0 = λ x. Covers x key in
            let k = subst P (sym e) f in absurd (omega (arith, b.0, k.1, g.0)))
      ]
      | inr e ↦ elim (contains_cases t rows s d) [
        | inl i ↦ (let b = rising_bounds (t.high + 1) rows r p.1 e in
            let P : Row → Type 0 = λ x. Covers x key in
            let k = subst P (sym i) g in absurd (omega (arith, b.0, k.1, f.0)))
        | inr i ↦ one_covers (t.high + 1) rows r s key p.1 e i f g
      ]
    ]

-- no two rows of the opcodes cover one key
pub one_covers_opcode : (r s : Row) (key : ℕ) → Contains opcode_rows r → Contains opcode_rows s → Covers r key → Covers s key → r ≡ s
one_covers_opcode r s key = one_covers 0 opcode_rows r s key refl

-- what a search finds stands in the list and passes the test, if one does
pub record Found (test : Row → Bool) (rows : List Row) : Type 0 where
  pub row : Row
  pub found : find test rows ≡ Some row
  pub listed : Contains rows row
  pub passes : test row ≡ true

found_first : (test : Row → Bool) (t : Row) (rows : List Row) (b : Bool) → test t ≡ b → (b ≡ false → Found test rows) → Found test (t ∷ rows)
found_first test t rows true e next = record { row = t; found = rw e refl; listed = contains_first t rows; passes = e }
found_first test t rows false e next =
    let f = next refl in
    record { row = f.row; found = rw e f.found; listed = contains_later t rows f.row f.listed; passes = f.passes }

pub search_finds : (test : Row → Bool) (rows : List Row) (r : Row) → Contains rows r → test r ≡ true → Found test rows
search_finds test [] r (k, l, e) h = absurd (omega arith)
search_finds test (t ∷ rows) r c h =
    found_first test t rows (test t) refl (λ no. elim (contains_cases t rows r c) [
      | inl e ↦ (let P : Row → Type 0 = λ x. test x ≡ true in let yes = subst P (sym e) h in cc)
      | inr d ↦ search_finds test rows r d h
    ])

-- what a search finds
pub record IsFound (test : Row → Bool) (rows : List Row) (r : Row) : Type 0 where
  pub listed : Contains rows r
  pub passes : test r ≡ true

found_cases : (test : Row → Bool) (t : Row) (rows : List Row) (r : Row) (b : Bool) → test t ≡ b → cond b (Some t) (find test rows) ≡ Some r → (find test rows ≡ Some r → IsFound test rows r) → IsFound test (t ∷ rows) r
found_cases test t rows r true e h next =
    let same : t ≡ r = cc in
    let P : Row → Type 0 = λ x. IsFound test (t ∷ rows) x in
    subst P same (record { listed = contains_first t rows; passes = e })
found_cases test t rows r false e h next =
    let f = next h in record { listed = contains_later t rows r f.listed; passes = f.passes }

pub found_is : (test : Row → Bool) (rows : List Row) (r : Row) → find test rows ≡ Some r → IsFound test rows r
found_is test [] r h = cc
found_is test (t ∷ rows) r h = found_cases test t rows r (test t) refl h (found_is test rows r)
