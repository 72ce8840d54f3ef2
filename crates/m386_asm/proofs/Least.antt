-- The least kind of a line, by tests in the order of the kinds' numbers.
use Rattle.std.proofs.Common.{◌≡◌, ℕ, ◌+◌, ◌<◌, nat_lt, Bool, true, false, List, [], ◌∷◌, refl, sym, ◌∙◌, subst, arith}
use Rattle.std.proofs.lemmas.Bool.Decides.{nat_tests}
use Rattle.std.specs.Prelude.{None, IsTrue}
use Rattle.m386_words.specs.Text.{tokens_of, solid}
use Rattle.m386_lines.specs.declared.kind.AsmKind.{AsmKind}
use Rattle.m386_lines.specs.declared.kind.AsmKind.TheVariants as kinds
use Rattle.m386_lines.specs.Lines.{shape_of}
use Rattle.m386_lines.specs.Faults.{own_kind, first_of, has_strange_byte, has_strange_token, has_wrong_number, has_no_mnemonic, has_wrong_operands, has_no_directive, has_wrong_arguments}
use Rattle.m386_asm.specs.Layout.{Laid, has, Has, kind_number}
use Rattle.m386_asm.specs.Walks.{IsLeast, AreTests, later_kinds}
use Rattle.m386_asm.proofs.Unique.{same_number}

-- a line has no kind below a number
abbrev pub Below : List Laid → List Laid → Laid → ℕ → Type 0
Below ls before l n = (other : AsmKind) → kind_number other < n → ¬ Has ls before l other

pub from_one : (k : AsmKind) → kind_number k < 1 → ⊥
from_one kinds.Ascii h = omega (arith, h)
from_one kinds.Token h = omega (arith, h)
from_one kinds.Number h = omega (arith, h)
from_one kinds.Mnemonic h = omega (arith, h)
from_one kinds.Operands h = omega (arith, h)
from_one kinds.UnknownName h = omega (arith, h)
from_one kinds.NameTwice h = omega (arith, h)
from_one kinds.Directive h = omega (arith, h)
from_one kinds.Arguments h = omega (arith, h)
from_one kinds.HeaderTwice h = omega (arith, h)
from_one kinds.HeaderMissing h = omega (arith, h)
from_one kinds.Range h = omega (arith, h)
from_one kinds.Overlap h = omega (arith, h)
from_one kinds.PlanOrder h = omega (arith, h)

to_fourteen : (k : AsmKind) → kind_number k < 15
to_fourteen kinds.Ascii = omega arith
to_fourteen kinds.Token = omega arith
to_fourteen kinds.Number = omega arith
to_fourteen kinds.Mnemonic = omega arith
to_fourteen kinds.Operands = omega arith
to_fourteen kinds.UnknownName = omega arith
to_fourteen kinds.NameTwice = omega arith
to_fourteen kinds.Directive = omega arith
to_fourteen kinds.Arguments = omega arith
to_fourteen kinds.HeaderTwice = omega arith
to_fourteen kinds.HeaderMissing = omega arith
to_fourteen kinds.Range = omega arith
to_fourteen kinds.Overlap = omega arith
to_fourteen kinds.PlanOrder = omega arith

pub step : (ls before : List Laid) (l : Laid) (k : AsmKind) → Below ls before l (kind_number k) → ¬ Has ls before l k → Below ls before l (kind_number k + 1)
step ls before l k below lacks other h it = by_test (nat_lt (kind_number other) (kind_number k)) refl
  where
    by_test : (b : Bool) → nat_lt (kind_number other) (kind_number k) ≡ b → ⊥
    by_test true e = below other (grind (arith, nat_tests, e)) it
    by_test false e = lacks (subst (Has ls before l) (same_number other k (grind (arith, nat_tests, e, h))) it)

pub not_true : (b : Bool) → b ≡ false → IsTrue b → ⊥
not_true true e t = cc
not_true false e t = cc

is_true : (b : Bool) → true ≡ b → IsTrue b
is_true b e = sym e

-- ---- a line has no kind by itself

head_not : (k : AsmKind) (b : Bool) (ks : List (AsmKind × Bool)) → first_of ((k, b) ∷ ks) ≡ None → b ≡ false
unfolding first_of
head_not k true ks h = cc
head_not k false ks h = refl

tail_not : (k : AsmKind) (b : Bool) (ks : List (AsmKind × Bool)) → first_of ((k, b) ∷ ks) ≡ None → first_of ks ≡ None
unfolding first_of
tail_not k true ks h = cc
tail_not k false ks h = h

record OwnNot (line : List ℕ) : Type 0 where
  ascii : has_strange_byte line ≡ false
  token : has_strange_token line ≡ false
  number : has_wrong_number line ≡ false
  mnemonic : has_no_mnemonic (shape_of (solid (tokens_of line))) ≡ false
  operands : has_wrong_operands (shape_of (solid (tokens_of line))) ≡ false
  directive : has_no_directive (shape_of (solid (tokens_of line))) ≡ false
  arguments : has_wrong_arguments (tokens_of line) (shape_of (solid (tokens_of line))) ≡ false

seven : (a b c d e f g : Bool) →
    first_of ((kinds.Ascii, a) ∷ (kinds.Token, b) ∷ (kinds.Number, c) ∷ (kinds.Mnemonic, d) ∷ (kinds.Operands, e) ∷ (kinds.Directive, f) ∷ (kinds.Arguments, g) ∷ []) ≡ None →
    (a ≡ false) × (b ≡ false) × (c ≡ false) × (d ≡ false) × (e ≡ false) × (f ≡ false) × (g ≡ false)
unfolding first_of
seven true b c d e f g h = cc
seven false true c d e f g h = cc
seven false false true d e f g h = cc
seven false false false true e f g h = cc
seven false false false false true f g h = cc
seven false false false false false true g h = cc
seven false false false false false false true h = cc
seven false false false false false false false h = (refl, refl, refl, refl, refl, refl, refl)

own_not : (line : List ℕ) → own_kind line ≡ None → OwnNot line
unfolding own_kind
own_not line h =
    let all = seven (has_strange_byte line) (has_strange_token line) (has_wrong_number line) (has_no_mnemonic (shape_of (solid (tokens_of line)))) (has_wrong_operands (shape_of (solid (tokens_of line))))
    (has_no_directive (shape_of (solid (tokens_of line)))) (has_wrong_arguments (tokens_of line) (shape_of (solid (tokens_of line)))) h in
    record { ascii = all.0; token = all.1; number = all.2; mnemonic = all.3; operands = all.4; directive = all.5; arguments = all.6 }

-- no kind below 6
by_itself : (ls before : List Laid) (l : Laid) → OwnNot l.text → Below ls before l 6
by_itself ls before l n =
    let one : Below ls before l 1 = λ k h it. from_one k h in
    let two : Below ls before l 2 = step ls before l kinds.Ascii one (not_true (has ls before l kinds.Ascii) n.ascii) in
    let three : Below ls before l 3 = step ls before l kinds.Token two (not_true (has ls before l kinds.Token) n.token) in
    let four : Below ls before l 4 = step ls before l kinds.Number three (not_true (has ls before l kinds.Number) n.number) in
    let five : Below ls before l 5 = step ls before l kinds.Mnemonic four (not_true (has ls before l kinds.Mnemonic) n.mnemonic) in
    step ls before l kinds.Operands five (not_true (has ls before l kinds.Operands) n.operands)

-- ---- the tests one by one

abbrev Found : List Laid → List Laid → Laid → List (AsmKind × Bool) → Type 0
Found ls before l ks = IsLeast ls before l (first_of ks)

-- where no kind comes below a kind's, its test decides, or those behind it do
decide : (ls before : List Laid) (l : Laid) (k : AsmKind) (b : Bool) (ks : List (AsmKind × Bool)) → Below ls before l (kind_number k) → (b ≡ true → Has ls before l k) →
    (b ≡ false → Found ls before l ks) → Found ls before l ((k, b) ∷ ks)
unfolding first_of
decide ls before l k true ks below has_it lacks = (has_it refl, below)
decide ls before l k false ks below has_it lacks = lacks refl

-- the same of a kind other than Range
decide_plain : (ls before : List Laid) (l : Laid) (k : AsmKind) (b : Bool) (ks : List (AsmKind × Bool)) → Below ls before l (kind_number k) → b ≡ has ls before l k → (IsTrue (has ls before l k) → Has ls before l k) →
    (Has ls before l k → IsTrue (has ls before l k)) → (Below ls before l (kind_number k + 1) → Found ls before l ks) → Found ls before l ((k, b) ∷ ks)
decide_plain ls before l k b ks below is wrap open_ rest =
    decide ls before l k b ks below (λ e. wrap (is_true (has ls before l k) (sym e ∙ is)))
    (λ e. rest (step ls before l k below (λ it. not_true (has ls before l k) (sym is ∙ e) (open_ it))))

none_left : (ls before : List Laid) (l : Laid) → Below ls before l 15 → Found ls before l []
unfolding first_of
none_left ls before l below = λ k it. below k (to_fourteen k) it

pub least : (ls before : List Laid) (l : Laid) (unknown twice header range overlap plan : Bool) → AreTests ls before l unknown twice header range overlap plan →
    IsLeast ls before l (first_of (later_kinds unknown twice header range overlap plan))
least ls before l unknown twice header range overlap plan t =
    let n : OwnNot l.text = own_not l.text t.own in
    decide_plain ls before l kinds.UnknownName unknown _ (by_itself ls before l n) t.unknown_is (λ x. x) (λ x. x) (λ seven.
    decide_plain ls before l kinds.NameTwice twice _ seven t.twice_is (λ x. x) (λ x. x) (λ eight.
    let nine : Below ls before l 9 = step ls before l kinds.Directive eight (not_true (has ls before l kinds.Directive) n.directive) in
    let ten : Below ls before l 10 = step ls before l kinds.Arguments nine (not_true (has ls before l kinds.Arguments) n.arguments) in
    decide_plain ls before l kinds.HeaderTwice header _ ten t.header_is (λ x. x) (λ x. x) (λ eleven.
    let twelve : Below ls before l 12 = step ls before l kinds.HeaderMissing eleven (not_true false refl) in
    decide ls before l kinds.Range range _ twelve t.range_is (λ e.
    let thirteen : Below ls before l 13 = step ls before l kinds.Range twelve (t.range_not e) in
    decide_plain ls before l kinds.Overlap overlap _ thirteen t.overlap_is (λ x. x) (λ x. x) (λ fourteen.
    decide_plain ls before l kinds.PlanOrder plan _ fourteen t.plan_is (λ x. x) (λ x. x) (λ fifteen.
    none_left ls before l fifteen))))))
