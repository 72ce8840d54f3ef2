-- The checks that a search has yet to make.
use Rattle.std.proofs.Common.{◌≡◌, ℕ, ◌+◌, ◌<◌, ◌≤◌, List, [], ◌∷◌, ◌++◌, length, drop, get_or, refl, add-one, drop-cons, Bool, true, false, cond, Some, None}
use Rattle.std.proofs.lemmas.List.{drop_all}
use Rattle.m386_checks.specs.declared.facts.Context.TheVariants.{Old}
use Rattle.m386_checks.specs.declared.facts.Fail.{Fail}
use Rattle.m386_checks.specs.declared.facts.Facts.{Facts}
use Rattle.m386_checks.specs.declared.table.Raises.TheVariants as raises
use Rattle.m386_checks.specs.declared.table.Check.{Check}
use Rattle.m386_checks.specs.declared.table.Subject.TheVariants as names
use Rattle.m386_checks.specs.declared.table.Test.TheVariants as tests
use Rattle.m386_checks.specs.First.{first_false, for_segment, for_segments}
use Rattle.m386_checks.specs.Holds.{test_holds}
use Rattle.m386_checks.specs.Table.{row, fail_of}

-- checks laid end to end: the first that fails is among the front ones
pub first_now : (f : Facts) (xs ys : List (Check × ℕ)) (x : Fail) → first_false f xs ≡ Some x → first_false f (xs ++ ys) ≡ Some x
unfolding first_false
first_now f [] ys x h = cc
first_now f (check ∷ xs) ys x h = go (first_now f xs ys x) (test_holds check.0.test f check.1) h
  where
    go : (first_false f xs ≡ Some x → first_false f (xs ++ ys) ≡ Some x) → (b : Bool) → cond b (first_false f xs) (Some (fail_of f check.0 check.1)) ≡ Some x → cond b (first_false f (xs ++ ys)) (Some (fail_of f check.0 check.1)) ≡ Some x
    go among true e = among e
    go among false e = e

-- or all of these hold, and it is among the others
pub first_later : (f : Facts) (xs ys : List (Check × ℕ)) → first_false f xs ≡ None → first_false f (xs ++ ys) ≡ first_false f ys
unfolding first_false
first_later f [] ys h = refl
first_later f (check ∷ xs) ys h = go (first_later f xs ys) (test_holds check.0.test f check.1) h
  where
    go : (first_false f xs ≡ None → first_false f (xs ++ ys) ≡ first_false f ys) → (b : Bool) → cond b (first_false f xs) (Some (fail_of f check.0 check.1)) ≡ None → cond b (first_false f (xs ++ ys)) (Some (fail_of f check.0 check.1)) ≡ first_false f ys
    go among true e = among e
    go among false e = cc

pub ruleset laid_out = (first_now, first_later)

abbrev no_row : Check
no_row = row 0 tests.TrUsable raises.Ts names.Nothing Old

pub row_next : (f : Facts) (seg : ℕ) (rows : List Check) (i : ℕ) → i < length rows → first_false f (for_segment seg (drop i rows)) ≡ cond (test_holds (get_or rows i no_row).test f seg) (first_false f (for_segment seg (drop (i + 1) rows))) (Some (fail_of f (get_or rows i no_row) seg))
unfolding first_false
row_next f seg rows i h = rw (drop-cons rows i no_row h) (rw (add-one i) refl)

pub row_end : (f : Facts) (seg : ℕ) (rows : List Check) (i : ℕ) → length rows ≤ i → first_false f (for_segment seg (drop i rows)) ≡ None
unfolding first_false
row_end f seg rows i h = rw (drop_all i rows h) refl

pub ruleset row_steps = (row_next, row_end)

pub turn_next : (segs : List ℕ) (rows : List Check) (i : ℕ) → i < length segs → for_segments (drop i segs) rows ≡ for_segment (get_or segs i 0) rows ++ for_segments (drop (i + 1) segs) rows
unfolding for_segments
turn_next segs rows i h = rw (drop-cons segs i 0 h) (rw (add-one i) refl)

pub turn_end : (f : Facts) (segs : List ℕ) (rows : List Check) (i : ℕ) → length segs ≤ i → first_false f (for_segments (drop i segs) rows) ≡ None
unfolding first_false for_segments
turn_end f segs rows i h = rw (drop_all i segs h) refl

pub ruleset turns = (first_now, first_later, turn_next, turn_end)
