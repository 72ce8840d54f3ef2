-- The rows of the old task: which of them fail first, and who is told.
use Rattle.std.proofs.Common.{◌≡◌, ℕ, ◌≤◌, ◌||◌, Bool, true, false, cond, List, [], ◌∷◌, ◌++◌, refl, sym, ◌∙◌, ap, arith, Option, Some, None}
use Rattle.std.specs.List.{AllByRecursion, slice_range}
use Rattle.m386_checks.specs.declared.facts.Context.{Context}
use Rattle.m386_checks.specs.declared.facts.Context.TheVariants.{Old, New}
use Rattle.m386_checks.specs.declared.facts.Facts.{Facts}
use Rattle.m386_checks.specs.declared.facts.Fail.{Fail}
use Rattle.m386_checks.specs.declared.table.Check.{Check}
use Rattle.m386_checks.specs.declared.table.Raises.TheVariants as raises
use Rattle.m386_checks.specs.declared.table.Subject.TheVariants as names
use Rattle.m386_checks.specs.declared.table.Test.TheVariants as tests
use Rattle.m386_checks.specs.First.{first_fail_of, old_fail_of, first_false, for_segment, for_segments, data_segments}
use Rattle.m386_checks.specs.Holds.{test_holds, is_start}
use Rattle.m386_checks.specs.Table.{check_table, fail_of, row}
use Rattle.m386_checks.proofs.Order.{first_later}
use Rattle.m386_switch.specs.Parts.{is_passed}
use Rattle.m386_switch.specs.Switch.{is_named}

abbrev row_1 : Check
row_1 = row 1 tests.TrUsable raises.Gp names.Nothing Old

abbrev row_2 : Check
row_2 = row 2 tests.TssInGdt raises.ByKind names.Tss Old

-- both of them say that this row fails
abbrev IsFirst : Facts → Check → Type 0
IsFirst f r = (first_fail_of f ≡ Some (fail_of f r 0)) × (old_fail_of f ≡ Some (fail_of f r 0))

pub fails_first : (f : Facts) → (is_start f.kind || f.tr_usable) ≡ false → IsFirst f row_1
unfolding first_fail_of old_fail_of first_false test_holds
fails_first f e = (rw e refl, rw e refl)

pub fails_second : (f : Facts) → (is_start f.kind || f.tr_usable) ≡ true → is_named f ≡ false → IsFirst f row_2
unfolding first_fail_of old_fail_of first_false test_holds
fails_second f u e = (rw (u, e) refl, rw (u, e) refl)

low_row : (o : Option Fail) (x y : Fail) → o ≡ Some y → o ≡ Some x → y.row ≤ 2 → 3 ≤ x.row → ⊥
low_row o x y e q l r =
    let s : Some y ≡ Some x = sym e ∙ q in
    let i : y ≡ x = cc in
    let n : y.row ≡ x.row = ap (λ (z : Fail). z.row) i in
    omega (arith, n, l, r)

pub first_is_low : (f : Facts) (x : Fail) → (is_start f.kind || f.tr_usable) ≡ false → first_fail_of f ≡ Some x → 3 ≤ x.row → ⊥
first_is_low f x u q r = low_row _ x (fail_of f row_1 0) (fails_first f u).0 q (omega arith) r

pub second_is_low : (f : Facts) (x : Fail) → (is_start f.kind || f.tr_usable) ≡ true → is_named f ≡ false → first_fail_of f ≡ Some x → 3 ≤ x.row → ⊥
second_is_low f x u e q r = low_row _ x (fail_of f row_2 0) (fails_second f u e).0 q (omega arith) r

pub passed_none : (o : Option Fail) → is_passed o ≡ true → o ≡ None
passed_none None e = refl
passed_none (Some x) e = let c : false ≡ true = e in absurd cc

-- a check that fails tells the task of its row
told_by : (c : Context) (f : Facts) (checks : List (Check × ℕ)) (x : Fail) → AllByRecursion (λ (check : Check × ℕ). check.0.context ≡ c) checks → first_false f checks ≡ Some x → x.context ≡ c
unfolding first_false
told_by c f [] x all h = cc
told_by c f (check ∷ rest) x all h = go (told_by c f rest x all.1) (test_holds check.0.test f check.1) h
  where
    go : (first_false f rest ≡ Some x → x.context ≡ c) → (b : Bool) → cond b (first_false f rest) (Some (fail_of f check.0 check.1)) ≡ Some x → x.context ≡ c
    go among true e = among e
    go among false e = let same : fail_of f check.0 check.1 ≡ x = cc in rw (← same) all.0

abbrev old_checks : List (Check × ℕ)
old_checks = for_segment 0 (slice_range check_table 0 7)

abbrev new_checks : List (Check × ℕ)
new_checks =
    for_segment 0 (slice_range check_table 7 15)
    ++ (for_segments data_segments (slice_range check_table 15 18) ++ for_segment 0 (slice_range check_table 18 19))

pub old_told : (f : Facts) (x : Fail) → old_fail_of f ≡ Some x → x.context ≡ Old
unfolding old_fail_of
old_told f x h = told_by Old f old_checks x (refl, (refl, (refl, (refl, (refl, (refl, (refl, tt))))))) h

pub new_told : (f : Facts) (x : Fail) → old_fail_of f ≡ None → first_fail_of f ≡ Some x → x.context ≡ New
unfolding old_fail_of first_fail_of for_segments
new_told f x n h =
    told_by New f new_checks x
    (refl, (refl, (refl, (refl, (refl, (refl, (refl, (refl, (refl, (refl, (refl, (refl, (refl, (refl, (refl, (refl, (refl, (refl, (refl, (refl, (refl, tt)))))))))))))))))))))
    (sym (first_later f old_checks new_checks n) ∙ h)
