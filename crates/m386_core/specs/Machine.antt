-- What contracts see of a machine, and what every machine keeps.
use Rattle.std.specs.Prelude.{◌≡◌, ℕ, ◌<◌, ◌≤◌, ◌⊎◌, List, [], ◌∷◌, ◌++◌, length, slice_get, Some, true}
use Rattle.std.specs.List.{AllByRecursion}
use Rattle.m386_base.specs.declared.ask.Ask.{Ask}
use Rattle.m386_base.specs.declared.ask.Cycle.{Cycle}
use Rattle.m386_base.specs.Bus.{cycle_of}
use Rattle.m386_image.specs.declared.image.Image.{Image}
use Rattle.m386_image.specs.Format.{IsValid}
use Rattle.m386_memory.specs.Contents.{Contents}
use Rattle.m386_memory.specs.History.{RecordView, IsHistory}
use Rattle.m386_memory.specs.declared.ended.ProcEnd.{ProcEnd}
use Rattle.m386_state.specs.declared.proc.Proc.{Proc}
use Rattle.m386_step.specs.Run.{BeginsWith}
use Rattle.m386_core.specs.Place.{HasFinishedAs, WaitsAs, Awaits, IsAmidGroup, IsPassedOver}

-- What contracts see of a machine: what it was made with; the bytes that it began with and the cycles made since; and for
-- each processor the state after its whole steps, and how many these are.
pub record MachineView : Type 0 where
  pub image : Image
  pub cpus : ℕ
  pub budget : ℕ
  pub log : RecordView
  pub ends : List (ProcEnd Proc)

-- after a history a processor has finished, or it waits for its next cycle, and its whole steps led it to e
abbrev pub IsPlaced : Image → ℕ → List Cycle → ℕ → ProcEnd Proc → Type 0
IsPlaced I n H p e = HasFinishedAs I n H p e ⊎ ((a : Ask) × WaitsAs I n H p e a)

-- A front of a run of c processors with a budget of n steps each: H is one lawful history over the image's first contents,
-- its cycles are of the processors below c, and the cycles of each are whole steps from its start, which led it to its
-- member of E, and then at most one proper front of a step.
-- Own choice: docs/DECISIONS.md, "A run"
pub record IsFrontOfRun (I : Image) (c n : ℕ) (first : Contents) (H : List Cycle) (E : List (ProcEnd Proc)) : Type 0 where
  pub below : AllByRecursion (λ (x : Cycle). x.cpu < c) H
  pub begins : BeginsWith I first
  pub history : IsHistory first H
  pub count : length E ≡ c
  pub places : (p : ℕ) (e : ProcEnd Proc) → slice_get E p ≡ Some e → IsPlaced I n H p e

-- what every machine keeps
pub record IsMachine (m : MachineView) : Type 0 where
  pub valid : IsValid m.image
  pub some : 1 ≤ m.cpus
  pub most : m.cpus ≤ m.image.cpus
  pub budget : m.budget ≤ 65536
  pub front : IsFrontOfRun m.image m.cpus m.budget m.log.first m.log.cycles m.ends

-- the machine of the same image, count and budget, over the same first contents
pub record SameMachine (old new : MachineView) : Type 0 where
  pub image : new.image ≡ old.image
  pub cpus : new.cpus ≡ old.cpus
  pub budget : new.budget ≡ old.budget
  pub first : new.log.first ≡ old.log.first

-- a machine passes processor p over
abbrev pub PassesOver : MachineView → ℕ → Type 0
PassesOver m p = IsPassedOver m.image m.cpus m.budget m.log.cycles p

-- in a machine processor q is amid a locked group
abbrev pub HasAmidGroup : MachineView → ℕ → Type 0
HasAmidGroup m q = IsAmidGroup m.image m.cpus m.budget m.log.cycles q

-- one cycle of this processor was made: the one that it asked for next, with what it was answered
pub record MakesCycle (cpu : ℕ) (old new : MachineView) : Type 0 where
  pub same : SameMachine old new
  pub asked : Ask
  pub value : ℕ
  pub awaited : Awaits old.image old.budget old.log.cycles cpu asked
  pub cycles : new.log.cycles ≡ old.log.cycles ++ record { cpu = cpu; ask = cycle_of asked value } ∷ []

-- one cycle of this processor was made, and then others of it, each joined to the one before
pub record MakesGroup (cpu : ℕ) (old new : MachineView) : Type 0 where
  pub same : SameMachine old new
  pub first : Cycle
  pub others : List Cycle
  pub by : first.cpu ≡ cpu
  pub joined : AllByRecursion (λ (x : Cycle). (x.cpu ≡ cpu) × (x.ask.joined ≡ true)) others
  pub cycles : new.log.cycles ≡ old.log.cycles ++ first ∷ others

-- a machine after more cycles
pub record GoesOn (old new : MachineView) : Type 0 where
  pub same : SameMachine old new
  pub more : List Cycle
  pub cycles : new.log.cycles ≡ old.log.cycles ++ more
  pub kept : IsMachine new
