-- What the first check that fails says of the others, of its row and of its task.
use Rattle.std.proofs.Common.{◌≡◌, ℕ, List, [], ◌∷◌, ◌++◌, refl, sym, ◌∙◌, ◌↔◌, Bool, true, false, not, cond, nat_le, ◌&&◌, Option, Some, None, IsTrue, IsNone, OnSome, IfSome}
use Rattle.std.specs.List.{list_all, slice_range}
use Rattle.m386_base.specs.Phrase.{agree}
use Rattle.m386_checks.specs.declared.facts.Context.{Context}
use Rattle.m386_checks.specs.declared.facts.Context.TheVariants.{Old, New}
use Rattle.m386_checks.specs.declared.facts.Fail.{Fail}
use Rattle.m386_checks.specs.declared.facts.Facts.{Facts}
use Rattle.m386_checks.specs.declared.table.Check.{Check}
use Rattle.m386_checks.specs.First.{first_false, first_fail_of, old_fail_of, for_segment, for_segments, data_segments, in_order, AllHold, AllChecksHold, context_of}
use Rattle.m386_checks.specs.Holds.{test_holds}
use Rattle.m386_checks.specs.Table.{check_table, fail_of}
use Rattle.m386_checks.proofs.Order.{first_now, first_later}

none-all_hold : (f : Facts) (checks : List (Check × ℕ)) → first_false f checks ≡ None → AllHold f checks
unfolding first_false AllHold
none-all_hold f [] h = tt
none-all_hold f (check ∷ rest) h = go (none-all_hold f rest) (test_holds check.0.test f check.1) h
  where
    go : (first_false f rest ≡ None → AllHold f rest) → (b : Bool) → cond b (first_false f rest) (Some (fail_of f check.0 check.1)) ≡ None → IsTrue b × AllHold f rest
    go among true e = (refl, among e)
    go among false e = cc

all_hold-none : (f : Facts) (checks : List (Check × ℕ)) → AllHold f checks → first_false f checks ≡ None
unfolding first_false AllHold
all_hold-none f [] h = refl
all_hold-none f (check ∷ rest) h = rw h.0 (all_hold-none f rest h.1)

is_old : Context → Bool
is_old Old = true
is_old New = false

context-old : (c : Context) (b : Bool) → agree (is_old c) b ≡ true → c ≡ cond b Old New
unfolding is_old
context-old Old true h = refl
context-old Old false h = cc
context-old New true h = cc
context-old New false h = refl

-- a row's number tells the task
tells : Check × ℕ → Bool
tells check = agree (is_old check.0.context) (nat_le check.0.number 7)

and-left : (a b : Bool) → a && b ≡ true → a ≡ true
and-left true b h = refl
and-left false b h = h

and-right : (a b : Bool) → a && b ≡ true → b ≡ true
and-right true b h = h
and-right false true h = refl
and-right false false h = h

context-first : (f : Facts) (checks : List (Check × ℕ)) (x : Fail) → list_all tells checks ≡ true → first_false f checks ≡ Some x → x.context ≡ context_of x.row
unfolding first_false tells
context-first f [] x all h = cc
context-first f (check ∷ rest) x all h =
    go (context-first f rest x (and-right _ _ all)) (context-old _ _ (and-left _ _ all)) (test_holds check.0.test f check.1) h
  where
    go : (first_false f rest ≡ Some x → x.context ≡ context_of x.row) → check.0.context ≡ context_of check.0.number → (b : Bool) → cond b (first_false f rest) (Some (fail_of f check.0 check.1)) ≡ Some x → x.context ≡ context_of x.row
    go among here true e = among e
    go among here false e = let same : fail_of f check.0 check.1 ≡ x = cc in rw (← same) here

-- the checks that are made in the old task, and those that are made in the new one
abbrev old_checks : List (Check × ℕ)
old_checks = for_segment 0 (slice_range check_table 0 7)

abbrev new_checks : List (Check × ℕ)
new_checks =
    for_segment 0 (slice_range check_table 7 15)
    ++ (for_segments data_segments (slice_range check_table 15 18) ++ for_segment 0 (slice_range check_table 18 19))

-- a check that fails in the old task is the first of all
pub old_is_first : (f : Facts) (x : Fail) → old_fail_of f ≡ Some x → first_fail_of f ≡ Some x
unfolding old_fail_of first_fail_of
old_is_first f x h = first_now f old_checks new_checks x h

pub first_none : (f : Facts) (o : Option Fail) → o ≡ first_false f (in_order check_table) → IsNone o ↔ AllChecksHold f
unfolding AllChecksHold
first_none f None e = (λ h. none-all_hold f _ (sym e), λ all. refl)
first_none f (Some x) e = (λ h. cc, λ all. absurd (let wrong : Some x ≡ None = e ∙ all_hold-none f _ all in cc))

pub first_context : (f : Facts) (o : Option Fail) → o ≡ first_false f (in_order check_table) → IfSome o (λ x. x.context ≡ context_of x.row)
unfolding for_segments tells is_old
first_context f None e = tt
first_context f (Some x) e = context-first f (in_order check_table) x refl (sym e)

pub old_first : (f : Facts) (o : Option Fail) → o ≡ old_fail_of f → OnSome o (o ≡ first_fail_of f)
old_first f None e = tt
old_first f (Some x) e = sym (old_is_first f x (sym e))
