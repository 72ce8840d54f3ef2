-- Small histories: of which it is said that they are allowed, or that they aren't.
use Rattle.std.specs.Prelude.{ℕ, ◌≡◌, ◌<◌, Bool, true, false, [], ◌∷◌, length}
use Rattle.m386_base.specs.declared.ask.Cycle.{Cycle}
use Rattle.m386_base.specs.declared.ask.Space.{Space}
use Rattle.m386_base.specs.declared.ask.Role.TheVariants as roles
use Rattle.m386_memory.specs.Contents.{Contents, space_in}
use Rattle.m386_memory.specs.History.{IsHistory}

-- a processor's cycle on the byte at 8
abbrev pub at_8 : ℕ → Space → Bool → ℕ → Cycle
at_8 cpu s write value = record { cpu = cpu; ask = record { space = s; write = write; joined = false; role = roles.Operand; part = 0; addr = 8; enables = 1; value = value } }

-- A cycle, joined or not, and then a joined one of another processor are no history.
-- Own choice: docs/DECISIONS.md, "Locked groups"
abbrev pub IsSplit : Contents → Cycle → Cycle → Type 0
IsSplit first x y = y.ask.joined ≡ true → ¬ (x.cpu ≡ y.cpu) → ¬ IsHistory first (x ∷ y ∷ [])

-- A read that gives another byte than was written last, by whichever processor, is no history.
-- Own choice: docs/DECISIONS.md, "What a read gives"
abbrev pub IsOtherRead : Contents → Space → ℕ → ℕ → Type 0
IsOtherRead first s p q = 8 < length (space_in first s) → ¬ IsHistory first (at_8 p s true 5 ∷ at_8 q s false 6 ∷ [])

-- A read that gives what was written last, by whichever processor, is a history.
-- Own choice: docs/DECISIONS.md, "What a read gives"
abbrev pub IsLastRead : Contents → Space → ℕ → ℕ → Type 0
IsLastRead first s p q = 8 < length (space_in first s) → IsHistory first (at_8 p s true 5 ∷ at_8 q s false 5 ∷ [])
