-- The numbers of the processors in a history.
use Rattle.std.specs.Prelude.{ℕ, ◌<◌, List}
use Rattle.std.specs.List.{AllByRecursion}
use Rattle.m386_base.specs.declared.ask.Cycle.{Cycle}

-- every cycle is of a processor whose number is below this
abbrev pub AllBelow : ℕ → List Cycle → Type 0
AllBelow n H = AllByRecursion (λ (x : Cycle). x.cpu < n) H
