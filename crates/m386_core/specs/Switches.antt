-- How each attempt at a task switch in a history ends.
use Rattle.std.specs.Prelude.{◌≡◌, ℕ, ◌+◌, ◌<◌, false, IsSome, List, [], ◌∷◌}
use Rattle.std.specs.List.{AllByRecursion, Contains, flat_map}
use Rattle.m386_base.specs.declared.ask.Ask.{Ask}
use Rattle.m386_base.specs.declared.ask.Cycle.{Cycle}
use Rattle.m386_base.specs.Laws.{attempts}
use Rattle.m386_base.specs.Phrase.{Attempt, Whole}
use Rattle.m386_checks.specs.First.{old_fail_of}
use Rattle.m386_image.specs.declared.image.Image.{Image}
use Rattle.m386_memory.specs.History.{cycles_of}
use Rattle.m386_state.specs.declared.proc.Proc.{Proc}
use Rattle.m386_switch.specs.Attempts.{is_of_a_switch}
use Rattle.m386_switch.specs.Seen.{seen, facts_of}
use Rattle.m386_step.specs.Run.{start_of, plan_of}
use Rattle.m386_step.specs.Step.{Follow, step_phrase}
use Rattle.m386_step.specs.StepEnds.{StepEnds, IsBehindReads}
use Rattle.m386_step.specs.Steps.{Plan, requested, planned}

-- A whole step of a processor: the state before it, its cycles, and the state after it.
pub record Made : Type 0 where
  pub before : Proc
  pub cycles : List Ask
  pub after : Proc

-- Whole steps laid end to end: each begins in the state that the one before left, with the request that the plan makes then. The first
-- begins in s, after j completed steps.
-- Own choice: docs/DECISIONS.md, "One step"
unfoldable pub AreMade : Plan → ℕ → Proc → List Made → Type 0
AreMade q j s [] = Unit {0}
AreMade q j s (x ∷ xs) = (x.before ≡ requested q j s) × (Follow x.before x.cycles ≡ Whole x.after []) × AreMade (planned q j s) (j + 1) x.after xs

-- These are whole steps of processor p from its start on, and their cycles, end to end, are all that it has in H.
pub record AreStepsOf (I : Image) (H : List Cycle) (p : ℕ) (xs : List Made) : Type 0 where
  pub made : AreMade (plan_of I p) 0 (start_of I p) xs
  pub cycles : flat_map (λ (x : Made). x.cycles) xs ≡ cycles_of p H

-- The attempts at a task switch in a step. There is one where the work of a switch begins: what was known then, and the step's
-- cycles from there to its end.
-- Source: Intel 80386 PRM 7.5
abbrev pub attempts_in : Made → List (Attempt × List Ask)
attempts_in x = attempts (step_phrase x.before) x.cycles

-- rows 1 to 7 of the check table don't all hold of what was known when the attempt began and of what the switch's own cycles read
abbrev pub FailsInOldTask : Attempt → List Ask → Type 0
FailsInOldTask m us = IsSome (old_fail_of (facts_of m (seen us)))

-- An attempt in a step, by the cycles us from where it begins, ends whole or at the first row that fails, and the step comes to what that
-- makes of it. The cycles of the step before it are reads, of which none is of a switch; and where one of rows 1 to 7 fails, no
-- cycle of the whole step is a write.
-- Source: Intel 80386 PRM 7.5; docs/DECISIONS.md, "The check table of a task switch"
pub record AttemptEnds (x : Made) (m : Attempt) (us : List Ask) : Type 0 where
  pub ends : StepEnds x.before m us x.after
  pub behind : IsBehindReads x.cycles us
  pub quiet : FailsInOldTask m ends.own → AllByRecursion (λ (t : Ask). t.write ≡ false) x.cycles

-- Each attempt in a step ends so; and a step without one has no cycle of a switch.
pub record EndsItsSwitches (x : Made) : Type 0 where
  pub each : AllByRecursion (λ (a : Attempt × List Ask). AttemptEnds x a.0 a.1) (attempts_in x)
  pub none_else : attempts_in x ≡ [] → AllByRecursion (λ (t : Ask). is_of_a_switch t.role ≡ false) x.cycles

-- Of each of c processors, its cycles in H are whole steps, and each attempt at a task switch in these ends whole or at the first row
-- of the check table that fails.
-- Source: Intel 80386 PRM 7.5; docs/DECISIONS.md, "The check table of a task switch"
pub record SwitchesEnd (I : Image) (c : ℕ) (H : List Cycle) : Type 0 where
  pub each : (p : ℕ) → p < c → (xs : List Made) × AreStepsOf I H p xs × AllByRecursion EndsItsSwitches xs

-- The cycle t of processor p stands in an attempt of one of its steps in H.
pub record StandsInAttempt (I : Image) (H : List Cycle) (p : ℕ) (t : Ask) : Type 0 where
  pub steps : List Made
  pub made : AreStepsOf I H p steps
  pub step : Made
  pub is_step : Contains steps step
  pub attempt : Attempt × List Ask
  pub is_attempt : Contains (attempts_in step) attempt
  pub stands : Contains attempt.1 t
