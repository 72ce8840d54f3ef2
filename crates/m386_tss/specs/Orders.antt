-- The fields that a task switch saves and loads, each list in the order of the work.
use Rattle.std.specs.Prelude.{ℕ, List, [], ◌∷◌}

-- Saved of the old task: EIP, EFLAGS, the eight general registers, the six segment registers.
-- Source: Intel 80386 PRM 7.5; the order: docs/DECISIONS.md, "The order of bus cycles"
unfoldable pub saved_fields : List ℕ
saved_fields = 8 ∷ 9 ∷ 10 ∷ 11 ∷ 12 ∷ 13 ∷ 14 ∷ 15 ∷ 16 ∷ 17 ∷ 18 ∷ 19 ∷ 20 ∷ 21 ∷ 22 ∷ 23 ∷ []

-- Loaded of the new task: those, and then LDT and the word of the T bit.
-- Source: Intel 80386 PRM 7.5; the order: docs/DECISIONS.md, "The order of bus cycles"
unfoldable pub loaded_fields : List ℕ
loaded_fields = 8 ∷ 9 ∷ 10 ∷ 11 ∷ 12 ∷ 13 ∷ 14 ∷ 15 ∷ 16 ∷ 17 ∷ 18 ∷ 19 ∷ 20 ∷ 21 ∷ 22 ∷ 23 ∷ 24 ∷ 25 ∷ []
