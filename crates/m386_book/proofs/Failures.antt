-- What fails a rule and what fails none: there is one first failure, and a front of a clean history is clean.
use Rattle.std.proofs.Common.{◌≡◌, ◌≢◌, ℕ, zero, suc, take, drop, [], ◌∷◌, ◌++◌, ◌+◌, ◌<◌, ◌≤◌, refl, Bool, true, false, List, length, get_or, Some, sym, ap, subst, ◌∙◌, inl, inr, arith}
use Rattle.std.specs.List.{slice_get}
use Rattle.std.proofs.lemmas.Bool.{cases_lt}
use Rattle.std.proofs.lemmas.List.{take-take, take-append-drop, reverse-append}
use Rattle.std.proofs.lemmas.Option.{get_or_from_slice_get, slice_get_within}
use Rattle.m386_base.specs.declared.ask.Cycle.{Cycle}
use Rattle.m386_base.specs.declared.ask.Role.{Role}
use Rattle.m386_base.specs.declared.ask.Role.TheVariants.{Operand, Push, LdtAcc, Flags, Lgdt, ClaimLtr}
use Rattle.m386_image.specs.declared.image.Image.{Image}
use Rattle.m386_memory.specs.History.{past}
use Rattle.m386_book.specs.Book.{Book, book_after}
use Rattle.m386_book.specs.Rules.{FailsAt, FailsStatic, IsFreeWrite}
use Rattle.m386_book.specs.Verdict.{AreClean, FailsInHistory, IsFirstFailure, NoneStatic}
use Rattle.m386_book.specs.declared.verdict.Verdict.{Verdict}
use Rattle.m386_book.specs.declared.verdict.Verdict.TheVariants.{Clean, Static, At}
use Rattle.m386_book.proofs.Walks.{past_more}

-- ---- older cycles of a clean history

-- what is older than these cycles
pub clean_older : (image : Image) (newer older : List Cycle) → AreClean image (newer ++ older) → AreClean image older
unfolding AreClean
clean_older image [] older clean = clean
clean_older image (x ∷ newer) older clean = clean_older image newer older clean.1

-- a front of a front is a front
take_less : (i j : ℕ) (H : List Cycle) → i ≤ j → take i (take j H) ≡ take i H
take_less i j H h = take-take i j H h

past_front : (i : ℕ) (H : List Cycle) → past H ≡ past (drop i H) ++ past (take i H)
past_front i H = ap past (sym (take-append-drop i H)) ∙ reverse-append (take i H) (drop i H)

pub clean_front_of : (image : Image) (H : List Cycle) (i : ℕ) → AreClean image (past H) → AreClean image (past (take i H))
clean_front_of image H i clean = clean_older image (past (drop i H)) (past (take i H)) (subst (AreClean image) (past_front i H) clean)

pub clean_less : (image : Image) (H : List Cycle) (i j : ℕ) → i ≤ j → AreClean image (past (take j H)) → AreClean image (past (take i H))
clean_less image H i j h clean = subst (λ (G : List Cycle). AreClean image (past G)) (take_less i j H h) (clean_front_of image (take j H) i clean)

-- no cycle of a clean front fails a rule
newest_keeps : (image : Image) (x : Cycle) (older : List Cycle) (rule : ℕ) → AreClean image (x ∷ older) → ¬ FailsAt image (book_after image older) x rule
unfolding AreClean
newest_keeps image x older rule clean = clean.0 rule

pub none_in : (image : Image) (H : List Cycle) (i j rule : ℕ) → i < j → AreClean image (past (take j H)) → ¬ FailsInHistory image H i rule
none_in image H i j rule lt clean failing =
    let within : i < length H = slice_get_within H i failing.0 failing.1 in
    let upto : AreClean image (past (take (i + 1) H)) = clean_less image H (i + 1) j (omega arith) clean in
    let now : AreClean image (get_or H i failing.0 ∷ past (take i H)) = subst (AreClean image) (past_more H i failing.0 within) upto in
    let e : get_or H i failing.0 ≡ failing.0 = get_or_from_slice_get H i failing.0 failing.0 failing.1 in
    newest_keeps image failing.0 (past (take i H)) rule (subst (λ (c : Cycle). AreClean image (c ∷ past (take i H))) e now) failing.2

pub none_anywhere : (image : Image) (H : List Cycle) (i rule : ℕ) → AreClean image (past H) → ¬ FailsInHistory image H i rule
none_anywhere image H i rule clean failing = none_in image H i (i + 1) rule (omega arith) (clean_front_of image H (i + 1) clean) failing

-- ---- there is one first failure

-- the rule that a cycle of a role may fail
rule_of : Role → ℕ
rule_of Lgdt = 6
rule_of Operand = 7
rule_of Push = 7
rule_of LdtAcc = 7
rule_of Flags = 8
rule_of _ = 9

free_rule : (role : Role) → IsFreeWrite role → rule_of role ≡ 7
unfolding rule_of
free_rule role (inl e) = ap rule_of e
free_rule role (inr (inl e)) = ap rule_of e
free_rule role (inr (inr e)) = ap rule_of e

rule_is : (image : Image) (book : Book) (c : Cycle) (r : ℕ) → FailsAt image book c r → r ≡ rule_of c.ask.role
unfolding rule_of
rule_is image book c r (inl (e, p)) = e ∙ sym (ap rule_of p)
rule_is image book c r (inr (inl (e, p))) = e ∙ sym (free_rule c.ask.role p.role)
rule_is image book c r (inr (inr (inl (e, p)))) = e ∙ sym (ap rule_of p.0.role)
rule_is image book c r (inr (inr (inr (e, p)))) = e ∙ sym (ap rule_of p.0.role)

same_rule_at : (image : Image) (history : List Cycle) (i j r s : ℕ) → i ≡ j → FailsInHistory image history i r → FailsInHistory image history j s → r ≡ s
same_rule_at image history i j r s same one other =
    let one_at : slice_get history i ≡ Some one.0 = one.1 in
    let other_at : slice_get history j ≡ Some other.0 = other.1 in
    let c : other.0 ≡ one.0 = cc in
    rule_is image (book_after image (past (take i history))) one.0 r one.2 ∙ ap (λ (x : Cycle). rule_of x.ask.role) (sym c) ∙ sym (rule_is image (book_after image (past (take j history))) other.0 s other.2)

same_place : (image : Image) (history : List Cycle) (i j r s : ℕ) → FailsInHistory image history i r → FailsInHistory image history j s
    → AreClean image (past (take i history)) → AreClean image (past (take j history)) → i ≡ j
same_place image history i j r s one other before_one before_other =
    elim (cases_lt i j) [
      | inl below ↦ absurd (none_in image history i j r below before_other one)
      | inr past ↦ elim (cases_lt j i) [ inl above ↦ absurd (none_in image history j i s above before_one other) | inr over ↦ omega arith ]
    ]

-- of two first failures of an image neither is less
same_static : (image : Image) (r s : ℕ) → FailsStatic image r → ((lesser : ℕ) → lesser < r → ¬ FailsStatic image lesser) → FailsStatic image s → ((lesser : ℕ) → lesser < s → ¬ FailsStatic image lesser) → r ≡ s
same_static image r s one least_one other least_other = elim (cases_lt r s) [
  | inl below ↦ absurd (least_other r below one)
  | inr over ↦ elim (cases_lt s r) [ inl above ↦ absurd (least_one s above other) | inr past ↦ omega arith ]
]

-- two first failures of one run are the same
pub one_first_failure : (image : Image) (history : List Cycle) (v w : Verdict) → IsFirstFailure image history v → IsFirstFailure image history w → v ≡ w
one_first_failure image history Clean Clean p q = refl
one_first_failure image history Clean (Static s) p q = absurd (p.0 s q.0)
one_first_failure image history Clean (At s j) p q = absurd (none_anywhere image history j s p.1 q.1)
one_first_failure image history (Static r) Clean p q = absurd (q.0 r p.0)
one_first_failure image history (Static r) (Static s) p q = ap Static (same_static image r s p.0 p.1 q.0 q.1)
one_first_failure image history (Static r) (At s j) p q = absurd (q.0 r p.0)
one_first_failure image history (At r i) Clean p q = absurd (none_anywhere image history i r q.1 p.1)
one_first_failure image history (At r i) (Static s) p q = absurd (p.0 s q.0)
one_first_failure image history (At r i) (At s j) p q =
    let place = same_place image history i j r s p.1 q.1 p.2 q.2 in
    let rule = same_rule_at image history i j r s place p.1 q.1 in
    cc

-- ---- a front of a clean history is clean

pub clean_front : (image : Image) (history : List Cycle) (count : ℕ) → IsFirstFailure image history Clean → IsFirstFailure image (take count history) Clean
clean_front image history count clean = (clean.0, clean_front_of image history count clean.1)
