-- What each row of the opcode table has, by a test that computes, and what follows for the opcodes.
use Rattle.std.specs.Prelude.{◌==◌}
use Rattle.std.proofs.Common.{◌≡◌, ℕ, ◌+◌, ◌*◌, ◌/◌, ◌%◌, ◌<◌, ◌≤◌, inl, inr, List, [], ◌∷◌, refl, sym, ◌∙◌, ap, Bool, true, false, ◌&&◌, ◌||◌, not, nat_le, nat_lt, arith, subst}
use Rattle.std.specs.Prelude.{is_some, if◌then◌else◌}
use Rattle.std.specs.List.{Contains, list_all, list_any}
use Rattle.std.proofs.lemmas.Bool.{and_parts, or_parts, or_cases, and_from, leb-true, le-leb, ltb-true, eqb-true, not-true, both_ways, cond-true, cond-false, cases_Bool, cases_lt, or_from}
use Rattle.std.proofs.lemmas.List.Sums.{AllPass-from_list_all}
use Rattle.std.proofs.lemmas.List.Elements.{All-contains}
use Rattle.m386_opmap.specs.declared.row.Row.{Row}
use Rattle.m386_opmap.specs.Opcodes.{opcode_rows}
use Rattle.m386_opmap.specs.Operands.{has_modrm, wants_memory, wants_register}
use Rattle.m386_opmap.specs.Prefix.{is_prefix, prefix_bytes}
use Rattle.m386_opmap.specs.Rows.{row_of, begins, Covers, rising}
use Rattle.m386_opmap.proofs.Table.{rising_bounds, one_covers}

-- a row with a ModRM byte lies in one opcode, and doesn't want a register alone together with LOCK or memory alone
abbrev pub is_selected : Row → Bool
is_selected r = (r.low / 8 == r.high / 8) && not (wants_register r && (r.lock || wants_memory r))

-- a row without one has whole opcodes, and no LOCK
abbrev pub is_whole : Row → Bool
is_whole r = (r.low % 8 == 0) && (r.high % 8 == 7) && not r.lock

-- opcodes are one byte, or the byte 0F and one more
abbrev pub is_ranged : Row → Bool
is_ranged r = nat_lt r.high 2048 || (nat_le 30720 r.low && nat_lt r.high 32768)

-- no opcode is a prefix or the byte 0F alone
abbrev pub is_apart : Row → Bool
is_apart r = list_all (λ b. not (begins false b r)) (0x0f ∷ prefix_bytes)

abbrev pub is_lawful : Row → Bool
is_lawful r = (if has_modrm r then is_selected r else is_whole r) && (is_ranged r && is_apart r)

-- what a table has
pub record Lawful (rows : List Row) : Type 0 where
  pub rise : rising rows ≡ true
  pub each : list_all is_lawful rows ≡ true
  pub opens : is_some (row_of true 0 rows) ≡ true
  pub opens_second : is_some (row_of true 0xfab rows) ≡ true

-- the opcodes have it
pub opcodes_lawful : Lawful opcode_rows
unfolding row_of
opcodes_lawful = record { rise = refl; each = refl; opens = refl; opens_second = refl }

-- each row of the table has it
pub lawful_row : (rows : List Row) (r : Row) → Lawful rows → Contains rows r → is_lawful r ≡ true
lawful_row rows r law c = All-contains (λ x. is_lawful x ≡ true) rows r (AllPass-from_list_all is_lawful rows law.each) c

-- what the first test says, by the kind of the row
pub selected : (r : Row) → is_lawful r ≡ true → has_modrm r ≡ true → is_selected r ≡ true
selected r h m = sym (cond-true (has_modrm r) (is_selected r) (is_whole r) m) ∙ (and_parts _ _ h).0

pub lawful_is_whole : (r : Row) → is_lawful r ≡ true → has_modrm r ≡ false → is_whole r ≡ true
lawful_is_whole r h m = sym (cond-false (has_modrm r) (is_selected r) (is_whole r) m) ∙ (and_parts _ _ h).0

-- a row without a ModRM byte covers all eight keys of its opcodes, and has no LOCK
pub record IsWhole (r : Row) : Type 0 where
  pub from : r.low % 8 ≡ 0
  pub to : r.high % 8 ≡ 7
  pub unlocked : r.lock ≡ false

pub whole_row : (r : Row) → is_lawful r ≡ true → has_modrm r ≡ false → IsWhole r
whole_row r h m =
    let p = and_parts ((r.low % 8 == 0) && (r.high % 8 == 7)) (not r.lock) (lawful_is_whole r h m) in
    let q = and_parts (r.low % 8 == 0) (r.high % 8 == 7) p.0 in
    record { from = eqb-true (r.low % 8) 0 q.0; to = eqb-true (r.high % 8) 7 q.1; unlocked = not-true r.lock p.1 }

-- a row of an opcode, whatever the ModRM byte
pub record IsBegun (lock : Bool) (o : ℕ) (r : Row) : Type 0 where
  pub low : r.low ≤ 8 * o + 7
  pub high : 8 * o ≤ r.high
  pub locked : not lock || r.lock ≡ true

pub begins_is_begun : (lock : Bool) (o : ℕ) (r : Row) → begins lock o r ≡ true → IsBegun lock o r
begins_is_begun lock o r h =
    let p = and_parts (nat_le r.low (8 * o + 7) && nat_le (8 * o) r.high) (not lock || r.lock) h in
    let q = and_parts (nat_le r.low (8 * o + 7)) (nat_le (8 * o) r.high) p.0 in
    record { low = leb-true r.low (8 * o + 7) q.0; high = leb-true (8 * o) r.high q.1; locked = p.1 }

pub begins_from : (lock : Bool) (o n : ℕ) (r : Row) → n < 8 → Covers r (8 * o + n) → not lock || r.lock ≡ true → begins lock o r ≡ true
begins_from lock o n r small c l =
    and_from (nat_le r.low (8 * o + 7) && nat_le (8 * o) r.high) (not lock || r.lock)
    (and_from (nat_le r.low (8 * o + 7)) (nat_le (8 * o) r.high)
    (le-leb r.low (8 * o + 7) (omega (arith, c.0)))
    (le-leb (8 * o) r.high (omega (arith, c.1))))
    l

-- what a number of an opcode is
pub data IsOpcode (o : ℕ) : Type 0 where
  byte : o < 256 → is_prefix o ≡ false → (o == 0x0f) ≡ false → IsOpcode o
  pair : 3840 ≤ o → o < 4096 → IsOpcode o

not_among : (test : ℕ → Bool) (xs : List ℕ) (o : ℕ) → list_all (λ b. not (test b)) xs ≡ true → test o ≡ true → list_any (λ p. o == p) xs ≡ false
not_among test [] o h t = refl
not_among test (x ∷ xs) o h t =
    let p = and_parts (not (test x)) (list_all (λ b. not (test b)) xs) h in
    elim (cases_Bool (o == x)) [
      | inl e ↦ (let i : o ≡ x = eqb-true o x e in
          let P : ℕ → Type 0 = λ y. test y ≡ true in
          let yes : test x ≡ true = subst P i t in
          absurd (both_ways (test x) (not-true (test x) p.0) yes))
      | inr e ↦ or_from (o == x) (list_any (λ q. o == q) xs) e (not_among test xs o p.1 t)
    ]

pub opcode_of_row : (o : ℕ) (r : Row) → is_lawful r ≡ true → begins false o r ≡ true → IsOpcode o
unfolding is_prefix
opcode_of_row o r h b =
    let p = and_parts (is_ranged r) (is_apart r) (and_parts (if has_modrm r then is_selected r else is_whole r) (is_ranged r && is_apart r) h).1 in
    let i = begins_is_begun false o r b in
    let apart = or_parts (o == 0x0f) (list_any (λ q. o == q) prefix_bytes) (not_among (λ x. begins false x r) (0x0f ∷ prefix_bytes) o p.1 b) in
    elim (or_cases (nat_lt r.high 2048) (nat_le 30720 r.low && nat_lt r.high 32768) p.0) [
      | inl e ↦ (let l : r.high < 2048 = ltb-true r.high 2048 e in byte (omega (arith, i.high)) apart.1 apart.0)
      | inr e ↦ (let q = and_parts (nat_le 30720 r.low) (nat_lt r.high 32768) e in
          let l : 30720 ≤ r.low = leb-true 30720 r.low q.0 in
          let m : r.high < 32768 = ltb-true r.high 32768 q.1 in
          pair (omega (arith, i.low)) (omega (arith, i.high)))
    ]

-- the row that an opcode begins with is the row of a key of the opcode, or both have a ModRM byte
pub record BeginsLike (r s : Row) : Type 0 where
  pub alike : has_modrm s ≡ has_modrm r
  pub same : has_modrm r ≡ false → s ≡ r

begins_whole : (rows : List Row) (lock : Bool) (o n : ℕ) (r s : Row) → Lawful rows → Contains rows r → Contains rows s → n < 8 →
    Covers r (8 * o + n) → begins lock o s ≡ true → has_modrm s ≡ false → s ≡ r
begins_whole rows lock o n r s law cr cs small c b m =
    let i = begins_is_begun lock o s b in
    let w = whole_row s (lawful_row rows s law cs) m in
    one_covers 0 rows s r (8 * o + n) law.rise cs cr (omega (arith, i.low, w.from), omega (arith, i.high, w.to)) c

begins_selected : (rows : List Row) (lock : Bool) (o n : ℕ) (r s : Row) → Lawful rows → Contains rows r → Contains rows s → n < 8 →
    Covers r (8 * o + n) → begins lock o s ≡ true → has_modrm r ≡ false → s ≡ r
begins_selected rows lock o n r s law cr cs small c b m =
    let i = begins_is_begun lock o s b in
    let w = whole_row r (lawful_row rows r law cr) m in
    let bounds = rising_bounds 0 rows s law.rise cs in
    elim (cases_lt s.low (8 * o)) [
      | inl l ↦ one_covers 0 rows s r (8 * o) law.rise cs cr (omega arith, i.high) (omega (arith, c.0, w.from), omega (arith, c.1, w.to))
      | inr l ↦ one_covers 0 rows s r s.low law.rise cs cr (omega arith, bounds.1) (omega (arith, c.0, w.from), omega (arith, c.1, w.to, i.low))
    ]

pub begins_like : (rows : List Row) (lock : Bool) (o n : ℕ) (r s : Row) → Lawful rows → Contains rows r → Contains rows s → n < 8 →
    Covers r (8 * o + n) → begins lock o s ≡ true → BeginsLike r s
begins_like rows lock o n r s law cr cs small c b =
    elim (cases_Bool (has_modrm r)) [
      | inr e ↦ (let same = begins_selected rows lock o n r s law cr cs small c b e in
          record { alike = ap has_modrm same; same = λ _. same })
      | inl e ↦ elim (cases_Bool (has_modrm s)) [
        | inl f ↦ record { alike = f ∙ sym e; same = λ no. absurd (both_ways (has_modrm r) no e) }
        | inr f ↦ (let same = begins_whole rows lock o n r s law cr cs small c b f in
            record { alike = ap has_modrm same; same = λ _. same })
      ]
    ]
