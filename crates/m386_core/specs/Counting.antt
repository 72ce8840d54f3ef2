-- How many cycles each processor of a machine has made.
use Rattle.std.specs.Prelude.{◌≡◌, ℕ, ◌<◌, ◌≤◌, List, length, slice_index_or}
use Rattle.m386_memory.specs.History.{cycles_of}
use Rattle.m386_core.specs.Machine.{MachineView}

-- how many cycles a processor of a machine has made
abbrev pub made_by : MachineView → ℕ → ℕ
made_by m p = length (cycles_of p m.log.cycles)

-- the numbers of the cycles that each of up to eight processors has made
pub record IsCounted (m : MachineView) (made : List ℕ) : Type 0 where
  pub few : m.cpus ≤ 8
  pub counts : (p : ℕ) → p < 8 → slice_index_or made p 0 ≡ made_by m p
