-- Rows of one name have numbers of the same kinds.
use Rattle.std.proofs.Common.{◌≡◌, ℕ, ◌<◌, ◌⊎◌, inl, inr, Bool, true, false, refl, sym, ◌∙◌, arith, subst, ◌&&◌, ◌||◌, not, rules}
use Rattle.std.specs.Prelude.{◌==◌}
use Rattle.std.specs.List.{list_all, Contains}
use Rattle.std.proofs.lemmas.Bool.{and_parts, or_cases, eqb-true, eqb-false, not-true}
use Rattle.std.proofs.lemmas.List.Sums.{AllPass-from_list_all}
use Rattle.std.proofs.lemmas.List.Elements.{All-contains}
use denote.Enum.Bare.{sameb, same_true, true_same}
use Rattle.m386_opmap.specs.contracts.name.Name.{the_type as names}
use Rattle.m386_opmap.specs.contracts.row.Operand.{the_type as operands}
use Rattle.m386_opmap.specs.declared.row.Operand.{Operand}
use Rattle.m386_opmap.specs.declared.row.Operand.TheVariants.{E, M, R, I, Ib, Iw, SignedByte, Jb, J, O, A, X, Table, One}
use Rattle.m386_opmap.specs.declared.row.Row.{Row}
use Rattle.m386_opmap.specs.Opcodes.{opcode_rows}
use Rattle.m386_encode.specs.Candidates.{is_place}
use Rattle.m386_encode.specs.Wide.{is_full}

-- the kind of value that an operand has by its code alone: an immediate, a distance, a far pointer, or memory of its own
abbrev pub kind_of : Operand → ℕ
kind_of I = 1
kind_of Ib = 1
kind_of Iw = 1
kind_of SignedByte = 1
kind_of One = 1
kind_of Jb = 2
kind_of J = 2
kind_of A = 3
kind_of X = 4
kind_of Table = 4
kind_of _ = 0

-- the kind that its value may be, where it isn't a register
abbrev pub may_be : Operand → ℕ
may_be E = 4
may_be M = 4
may_be R = 4
may_be O = 4
may_be x = kind_of x

-- an operand of such a kind is the only one of its name that may be of it
abbrev pub agrees : Operand → Operand → Bool
agrees p q = (kind_of p == 0) || (not (kind_of p == may_be q) || sameb operands p q)

abbrev pub agrees_with : Row → Operand → Bool
agrees_with t p = agrees p t.first && (agrees p t.second && agrees p t.third)

abbrev is_like : Row → Row → Bool
is_like r t = not (is_full r && (is_full t && sameb names r.name t.name)) || (agrees_with t r.first && (agrees_with t r.second && agrees_with t r.third))

all_like : list_all (λ r. list_all (is_like r) opcode_rows) opcode_rows ≡ true
all_like = refl

abbrev has_one_place : Row → Bool
has_one_place r = not (is_place r.first && is_place r.second)

all_single : list_all has_one_place opcode_rows ≡ true
all_single = refl

-- two rows whose numbers are of the same kinds
pub record Like (r t : Row) : Type 0 where
  pub first : agrees_with t r.first ≡ true
  pub second : agrees_with t r.second ≡ true
  pub third : agrees_with t r.third ≡ true

like_by : (full other same : Bool) (a b c : Bool) → full ≡ true → other ≡ true → same ≡ true → not (full && (other && same)) || (a && (b && c)) ≡ true → a && (b && c) ≡ true
like_by true true true a b c f o s h = h
like_by true true false a b c f o s h = cc
like_by true false same a b c f o s h = cc
like_by false other same a b c f o s h = cc

pub like_rows : (r t : Row) → Contains opcode_rows r → Contains opcode_rows t → is_full r ≡ true → is_full t ≡ true → r.name ≡ t.name → Like r t
like_rows r t c d f g n =
    let one : list_all (is_like r) opcode_rows ≡ true = All-contains (λ x. list_all (is_like x) opcode_rows ≡ true) opcode_rows r (AllPass-from_list_all (λ x. list_all (is_like x) opcode_rows) opcode_rows all_like) c in
    let two : is_like r t ≡ true = All-contains (λ x. is_like r x ≡ true) opcode_rows t (AllPass-from_list_all (is_like r) opcode_rows one) d in
    let h = like_by (is_full r) (is_full t) (sameb names r.name t.name) (agrees_with t r.first) (agrees_with t r.second) (agrees_with t r.third) f g (true_same names r.name t.name n) two in
    let a = and_parts (agrees_with t r.first) (agrees_with t r.second && agrees_with t r.third) h in
    let b = and_parts (agrees_with t r.second) (agrees_with t r.third) a.1 in
    record { first = a.0; second = b.0; third = b.1 }

-- the ModRM byte names one operand
pub one_place : (r : Row) → Contains opcode_rows r → is_place r.first && is_place r.second ≡ false
one_place r c = not-true (is_place r.first && is_place r.second) (All-contains (λ x. has_one_place x ≡ true) opcode_rows r (AllPass-from_list_all has_one_place opcode_rows all_single) c)

-- an operand of a row
abbrev pub IsAmong : Row → Operand → Type 0
IsAmong t q = (q ≡ t.first) ⊎ ((q ≡ t.second) ⊎ (q ≡ t.third))

-- each operand of a row agrees with those of a row like it
pub like_among : (r t : Row) (p : Operand) → Like r t → IsAmong r p → agrees_with t p ≡ true
like_among r t p like among =
    let P : Operand → Type 0 = λ q. agrees_with t q ≡ true in
    elim among [ inl e ↦ subst P (sym e) like.first | inr d ↦ elim d [ inl e ↦ subst P (sym e) like.second | inr e ↦ subst P (sym e) like.third ] ]

agreed : (p q : Operand) (t : Row) → agrees_with t p ≡ true → IsAmong t q → agrees p q ≡ true
agreed p q t h among =
    let a = and_parts (agrees p t.first) (agrees p t.second && agrees p t.third) h in
    let b = and_parts (agrees p t.second) (agrees p t.third) a.1 in
    let P : Operand → Type 0 = λ x. agrees p x ≡ true in
    elim among [
      | inl e ↦ subst P (sym e) a.0
      | inr d ↦ elim d [ inl e ↦ subst P (sym e) b.0 | inr e ↦ subst P (sym e) b.1 ]
    ]

kind_by : (k m s : ℕ) (same : Bool) → 0 < k → s ≡ k → (s == 0) || (m == s) ≡ true → (k == 0) || (not (k == m) || same) ≡ true → same ≡ true
kind_by k m s same more is h g =
    elim (or_cases (s == 0) (m == s) h) [
      | inl e ↦ absurd (omega (arith, eqb-true s 0 e, is, more))
      | inr e ↦ elim (or_cases (k == 0) (not (k == m) || same) g) [
        | inl d ↦ absurd (omega (arith, eqb-true k 0 d, more))
        | inr d ↦ elim (or_cases (not (k == m)) same d) [
          | inl c ↦ (let there : m ≡ k = eqb-true m s e ∙ is in
              absurd (eqb-false k m (not-true (k == m) c) (sym there)))
          | inr c ↦ c
        ]
      ]
    ]

-- an operand by which a value of such a kind is spelled is the same
pub same_operand : (p q : Operand) (t : Row) (s : ℕ) → agrees_with t p ≡ true → IsAmong t q → 0 < kind_of p → s ≡ kind_of p → (s == 0) || (may_be q == s) ≡ true → p ≡ q
same_operand p q t s h among more is may = same_true operands (search rules) p q (kind_by (kind_of p) (may_be q) s (sameb operands p q) more is may (agreed p q t h among))
