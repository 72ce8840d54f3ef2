-- The row of a spelling is the only one that its bytes match.
use Rattle.std.specs.Prelude.{◌==◌, is_some}
use Rattle.std.specs.List.{All}
use Rattle.std.proofs.Common.{◌≡◌, ℕ, ◌+◌, ◌-◌, ◌*◌, ◌≤◌, inl, inr, List, [], ◌∷◌, ◌++◌, refl, sym, ◌∙◌, ap, true, false, Option, arith, subst}
use Rattle.std.proofs.lemmas.Bool.{cases_Bool, both_ways, eq-eqb, le-ltb, lt-ltb}
use Rattle.std.proofs.lemmas.List.Elements.{All-head, All-tail}
use Rattle.m386_opmap.specs.declared.op.Arg.{Arg}
use Rattle.m386_opmap.specs.declared.op.Op.{Op}
use Rattle.m386_opmap.specs.declared.row.Row.{Row}
use Rattle.m386_opmap.specs.Forms.{Form, absent, register, based, indexed, middle_bits}
use Rattle.m386_opmap.specs.Operands.{has_modrm}
use Rattle.m386_opmap.specs.Prefix.{is_prefix}
use Rattle.m386_opmap.specs.Rows.{begins, Covers}
use Rattle.m386_opmap.specs.Spelling.{SpelledBy, opcode_bytes}
use Rattle.m386_opmap.proofs.Complete.{form_middle, escape_is_no_prefix}
use Rattle.m386_opmap.proofs.Lawful.{Lawful, lawful_row, begins_from, begins_like, IsOpcode, byte, pair, opcode_of_row}
use Rattle.m386_opmap.proofs.Table.{one_covers}

-- the first byte of an opcode, and what stands behind it
record Opened (o : ℕ) (bytes : List ℕ) : Type 0 where
  pub first : ℕ
  pub rest : List ℕ
  pub parts : opcode_bytes o ++ bytes ≡ first ∷ rest
  pub apart : is_prefix first ≡ false

opened : (o : ℕ) (bytes : List ℕ) → IsOpcode o → Opened o bytes
opened o bytes (byte h p q) = record { first = o; rest = bytes; parts = rw (lt-ltb o 256 h) refl; apart = p }
opened o bytes (pair h k) =
    let long : 256 ≤ o = omega arith in
    record { first = 0x0f; rest = (o - 0xf00) ∷ bytes; parts = rw (le-ltb o 256 long) refl; apart = escape_is_no_prefix }

-- bytes that are one opcode and others, and another opcode and others
pub record Same (o p : ℕ) (xs ys : List ℕ) : Type 0 where
  pub opcode : o ≡ p
  pub behind : xs ≡ ys

same_opcode : (o p : ℕ) (xs ys : List ℕ) → IsOpcode o → IsOpcode p → opcode_bytes o ++ xs ≡ opcode_bytes p ++ ys → Same o p xs ys
same_opcode o p xs ys (byte h i j) (byte k l m) e =
    let f = rw (lt-ltb o 256 h, lt-ltb p 256 k) at e in
    let g : o ∷ xs ≡ p ∷ ys = f in
    record { opcode = cc; behind = cc }
same_opcode o p xs ys (byte h i j) (pair k l) e =
    let long : 256 ≤ p = omega arith in
    let f = rw (lt-ltb o 256 h, le-ltb p 256 long) at e in
    let g : o ∷ xs ≡ 0x0f ∷ (p - 0xf00) ∷ ys = f in
    let same : o ≡ 0x0f = cc in
    absurd (both_ways (o == 0x0f) j (eq-eqb o 0x0f same))
same_opcode o p xs ys (pair h i) (byte k l m) e =
    let long : 256 ≤ o = omega arith in
    let f = rw (le-ltb o 256 long, lt-ltb p 256 k) at e in
    let g : 0x0f ∷ (o - 0xf00) ∷ xs ≡ p ∷ ys = f in
    let same : p ≡ 0x0f = cc in
    absurd (both_ways (p == 0x0f) m (eq-eqb p 0x0f same))
same_opcode o p xs ys (pair h i) (pair k l) e =
    let long : 256 ≤ o = omega arith in
    let longer : 256 ≤ p = omega arith in
    let f = rw (le-ltb o 256 long, le-ltb p 256 longer) at e in
    let g : 0x0f ∷ (o - 0xf00) ∷ xs ≡ 0x0f ∷ (p - 0xf00) ∷ ys = f in
    let same : o - 0xf00 ≡ p - 0xf00 = cc in
    record { opcode = omega arith; behind = cc }

-- prefixes end where the opcode begins
pub same_parts : (ps qs : List ℕ) (o p : ℕ) (xs ys : List ℕ) → All (λ b. is_prefix b ≡ true) ps → All (λ b. is_prefix b ≡ true) qs → IsOpcode o → IsOpcode p →
    ps ++ (opcode_bytes o ++ xs) ≡ qs ++ (opcode_bytes p ++ ys) → Same o p xs ys
same_parts [] [] o p xs ys h k i j e = same_opcode o p xs ys i j e
same_parts [] (q ∷ qs) o p xs ys h k i j e =
    let b = opened o xs i in
    let f : b.first ∷ b.rest ≡ q ∷ (qs ++ (opcode_bytes p ++ ys)) = sym b.parts ∙ e in
    let same : q ≡ b.first = cc in
    let P : ℕ → Type 0 = λ x. is_prefix x ≡ true in
    absurd (both_ways (is_prefix b.first) b.apart (subst P same (All-head P q qs k)))
same_parts (r ∷ ps) [] o p xs ys h k i j e =
    let b = opened p ys j in
    let f : r ∷ (ps ++ (opcode_bytes o ++ xs)) ≡ b.first ∷ b.rest = e ∙ b.parts in
    let same : r ≡ b.first = cc in
    let P : ℕ → Type 0 = λ x. is_prefix x ≡ true in
    absurd (both_ways (is_prefix b.first) b.apart (subst P same (All-head P r ps h)))
same_parts (r ∷ ps) (q ∷ qs) o p xs ys h k i j e =
    let f : ps ++ (opcode_bytes o ++ xs) ≡ qs ++ (opcode_bytes p ++ ys) = cc in
    same_parts ps qs o p xs ys (All-tail (λ b. is_prefix b ≡ true) r ps h) (All-tail (λ b. is_prefix b ≡ true) q qs k) i j f

-- the middle bits of a ModRM byte
record IsHead (modrm : List ℕ) (mid : ℕ) : Type 0 where
  pub first : ℕ
  pub rest : List ℕ
  pub parts : modrm ≡ first ∷ rest
  pub bits : mid ≡ middle_bits first

form_head : {seg : Option ℕ} {modrm : List ℕ} {mid : ℕ} {place : Option Arg} → Form seg modrm mid place → is_some place ≡ true → IsHead modrm mid
form_head absent h = cc
form_head (register m k) h = record { first = m; rest = []; parts = refl; bits = refl }
form_head (based m ds k l n) h = record { first = m; rest = ds; parts = refl; bits = refl }
form_head (indexed m s ds k l n) h = record { first = m; rest = s ∷ ds; parts = refl; bits = refl }

same_middle : (xs ys : List ℕ) (tail rest : List ℕ) (m n : ℕ) → IsHead xs m → IsHead ys n → xs ++ tail ≡ ys ++ rest → m ≡ n
same_middle xs ys tail rest m n a b e =
    let f : a.first ∷ (a.rest ++ tail) ≡ b.first ∷ (b.rest ++ rest) = ap (λ x. x ++ tail) (sym a.parts) ∙ e ∙ ap (λ x. x ++ rest) b.parts in
    let same : a.first ≡ b.first = cc in
    a.bits ∙ ap middle_bits same ∙ sym b.bits

-- the opcode of a spelling
opcode_is : (rows : List Row) (op : Op) (bytes : List ℕ) → Lawful rows → (s : SpelledBy rows op bytes) → begins false s.opcode s.row ≡ true
opcode_is rows op bytes law s = begins_from false s.opcode s.middle s.row (form_middle s.form) s.covered refl

-- No two rows match one string of bytes.
pub one_row : (rows : List Row) (op other : Op) (bytes : List ℕ) → Lawful rows → (s : SpelledBy rows op bytes) → (t : SpelledBy rows other bytes) → s.row ≡ t.row
one_row rows op other bytes law s t =
    let b = opcode_is rows op bytes law s in
    let c = opcode_is rows other bytes law t in
    let i : IsOpcode s.opcode = opcode_of_row s.opcode s.row (lawful_row rows s.row law s.listed) b in
    let j : IsOpcode t.opcode = opcode_of_row t.opcode t.row (lawful_row rows t.row law t.listed) c in
    let same = same_parts s.prefixes t.prefixes s.opcode t.opcode (s.modrm ++ s.tail) (t.modrm ++ t.tail) s.are_prefixes t.are_prefixes i j (sym s.parts ∙ t.parts) in
    let B : ℕ → Type 0 = λ o. begins false o t.row ≡ true in
    let like = begins_like rows false s.opcode s.middle s.row t.row law s.listed t.listed (form_middle s.form) s.covered (subst B (sym same.opcode) c) in
    elim (cases_Bool (has_modrm s.row)) [
      | inr without ↦ sym (like.same without)
      | inl with ↦ (
          let mid : s.middle ≡ t.middle = same_middle s.modrm t.modrm s.tail t.tail s.middle t.middle
          (form_head s.form (sym s.wanted ∙ with)) (form_head t.form (sym t.wanted ∙ (like.alike ∙ with))) same.behind in
          let key : 8 * t.opcode + t.middle ≡ 8 * s.opcode + s.middle = omega (arith, same.opcode) in
          let C : ℕ → Type 0 = λ k. Covers t.row k in
          one_covers 0 rows s.row t.row (8 * s.opcode + s.middle) law.rise s.listed t.listed s.covered (subst C key t.covered))
    ]
