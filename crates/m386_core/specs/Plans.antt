-- What is left of a processor's plan.
use Rattle.std.specs.Prelude.{ℕ, ◌==◌, List, [], ◌∷◌, map, filter, Option, Some, None}
use Rattle.m386_image.specs.declared.image.Planned.{Planned}
use Rattle.m386_step.specs.Steps.{Plan}
use Rattle.m386_core.specs.declared.plans.PlanLeft.{PlanLeft}

-- the steps and vectors of a processor's entries among these, in their order
abbrev pub entries_of : ℕ → List Planned → Plan
entries_of p es = map (λ (e : Planned). (e.step, e.vector)) (filter (λ (e : Planned). e.cpu == p) es)

-- a front entry, and those of a processor behind it
abbrev pub front_and_entries : ℕ → Option Planned → List Planned → Plan
front_and_entries p None es = []
front_and_entries p (Some e) es = (e.step, e.vector) ∷ entries_of p es

-- what is left of the plan of processor p
abbrev pub entries_left : ℕ → PlanLeft → Plan
entries_left p left = front_and_entries p left.front left.behind.now
