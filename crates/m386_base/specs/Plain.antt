-- The law that an operation owes: how many cycles it makes at most, which, and what it leaves.
use Rattle.std.specs.Prelude.{ℕ, zero, suc, List, [], ◌∷◌}
use Rattle.m386_base.specs.declared.ask.Ask.{Ask}
use Rattle.m386_base.specs.Bus.{cycle_of}
use Rattle.m386_base.specs.Phrase.{Phrase, Done, Faults, Asks, Begins}

-- A phrase whose operation has made the cycles ts, the newest first, makes at most n more. `may` allows each ask behind the
-- cycles before it, whatever is answered. No task switch begins. Where it ends, `ends` holds of all its cycles and of what it
-- found; at a fault nothing is owed.
-- Own choice: docs/DECISIONS.md, "What an operation owes"
unfoldable pub Plain : {A : Type 0} → ℕ → (List Ask → Ask → Type 0) → (List Ask → A → Type 0) → List Ask → Phrase A → Type 0
Plain n may ends ts (Done a) = ends ts a
Plain n may ends ts (Faults f) = Unit {0}
Plain n may ends ts (Begins m t) = ⊥
Plain zero may ends ts (Asks q k) = ⊥
Plain (suc n) may ends ts (Asks q k) = may ts q × ((v : ℕ) → Plain n may ends (cycle_of q v ∷ ts) (k v))

-- further cycles behind earlier ones, the newest first
abbrev pub behind : List Ask → List Ask → List Ask
behind before [] = before
behind before (t ∷ ts) = behind (t ∷ before) ts
