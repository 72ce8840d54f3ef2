-- The order of the checks, and the first that fails.
use Rattle.std.specs.Prelude.{ℕ, List, [], ◌∷◌, ◌++◌, map, slice_range, if◌then◌else◌, nat_le, IsTrue, Option, Some, None}
use Rattle.m386_base.specs.Segments.{es, ds, fs, gs}
use Rattle.m386_checks.specs.declared.facts.Context.{Context}
use Rattle.m386_checks.specs.declared.facts.Context.TheVariants.{Old, New}
use Rattle.m386_checks.specs.declared.facts.Fail.{Fail}
use Rattle.m386_checks.specs.declared.facts.Facts.{Facts}
use Rattle.m386_checks.specs.declared.table.Check.{Check}
use Rattle.m386_checks.specs.Holds.{test_holds}
use Rattle.m386_checks.specs.Table.{check_table, fail_of}

-- rows, each with the data segment register whose turn it is
abbrev pub for_segment : ℕ → List Check → List (Check × ℕ)
for_segment seg rows = map (λ r. (r, seg)) rows

-- rows for each of these registers in turn
unfoldable pub for_segments : List ℕ → List Check → List (Check × ℕ)
for_segments [] rows = []
for_segments (seg ∷ segs) rows = for_segment seg rows ++ for_segments segs rows

-- The data segment registers in the order of their tests: DS, ES, FS, GS.
-- Own choice: docs/DECISIONS.md, "The check table of a task switch"
abbrev pub data_segments : List ℕ
data_segments = ds ∷ es ∷ fs ∷ gs ∷ []

-- The rows in the order of their tests: 1 to 15, then 16 to 18 for each data segment register, then 19.
-- Own choice: docs/DECISIONS.md, "The check table of a task switch"
abbrev pub in_order : List Check → List (Check × ℕ)
in_order rows =
    for_segment 0 (slice_range rows 0 15) ++ (for_segments data_segments (slice_range rows 15 18) ++ for_segment 0 (slice_range rows 18 19))

-- the first check that is false, in the order of the list
unfoldable pub first_false : Facts → List (Check × ℕ) → Option Fail
first_false f [] = None
first_false f (check ∷ rest) = if test_holds check.0.test f check.1 then first_false f rest else Some (fail_of f check.0 check.1)

-- each of these checks holds
unfoldable pub AllHold : Facts → List (Check × ℕ) → Type 0
AllHold f [] = Unit {0}
AllHold f (check ∷ rest) = IsTrue (test_holds check.0.test f check.1) × AllHold f rest

-- All checks of a task switch hold.
-- Source: Intel 80386 PRM 7.5; the rows: docs/DECISIONS.md, "The check table of a task switch"
unfoldable pub AllChecksHold : Facts → Type 0
AllChecksHold f = AllHold f (in_order check_table)

-- Rows 1 to 7 are reported in the old task, and the others in the new one.
-- Own choice: docs/DECISIONS.md, "The check table of a task switch"
abbrev pub context_of : ℕ → Context
context_of number = if nat_le number 7 then Old else New

-- The first check of a task switch that fails, or None where all hold.
-- Source: Intel 80386 PRM 7.5; the rows: docs/DECISIONS.md, "The check table of a task switch"
unfoldable pub first_fail_of : Facts → Option Fail
first_fail_of f = first_false f (in_order check_table)

-- The first that fails of those that are made in the old task, rows 1 to 7.
-- Source: Intel 80386 PRM 7.5; the rows: docs/DECISIONS.md, "The check table of a task switch"
unfoldable pub old_fail_of : Facts → Option Fail
old_fail_of f = first_false f (for_segment 0 (slice_range check_table 0 7))
