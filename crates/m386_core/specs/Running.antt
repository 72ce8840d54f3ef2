-- What the loops of a run keep.
use Rattle.std.specs.Prelude.{◌≡◌, ℕ, ◌+◌, ◌-◌, ◌%◌, ◌<◌, nat_lt, if◌then◌else◌}
use Rattle.m386_core.specs.declared.order.Order.{Order}
use Rattle.m386_core.specs.Machine.{MachineView}
use Rattle.m386_core.specs.Order.{Naming, named, passed, StandsAt}
use Rattle.m386_core.specs.Place.{HasFinished}

-- the order has named processors that gave the cycles of this machine, and stands at s
abbrev pub OrderAt : Order → MachineView → Naming → Type 0
OrderAt order m s = StandsAt m.image m.cpus m.budget order m.log.cycles s

-- From f 0 on, and as long as they are passed over, the processors a, a + 1 and so on are named, modulo the count.
pub record Rises (c a : ℕ) (f : ℕ → Naming) : Type 0 where
  pub step : (i : ℕ) → passed (f i) ≡ f (i + 1)
  pub names : (i : ℕ) → named c (f i) ≡ (a + i) % c

-- how many places on from one number another stands, in turn
abbrev pub gap : ℕ → ℕ → ℕ → ℕ
gap c number due = if nat_lt due number then due + c - number else due - number

-- each processor has finished
abbrev pub IsOver : MachineView → Type 0
IsOver m = (p : ℕ) → p < m.cpus → HasFinished m.image m.budget m.log.cycles p
