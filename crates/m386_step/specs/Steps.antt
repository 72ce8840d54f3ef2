-- Whole steps laid end to end, with a plan of interrupts.
use Rattle.std.specs.Prelude.{◌≡◌, ◌≢◌, ◌++◌, ℕ, zero, suc, ◌+◌, ◌<◌, ◌⊎◌, ◌&&◌, Bool, false, nat_le, is_none, if◌then◌else◌, Some, List, [], ◌∷◌}
use Rattle.m386_base.specs.declared.ask.Ask.{Ask}
use Rattle.m386_base.specs.Bus.{BusView}
use Rattle.m386_base.specs.Phrase.{Whole, Wants, SameBus}
use Rattle.m386_state.specs.declared.proc.Proc.{Proc}
use Rattle.m386_state.specs.declared.proc.Mode.TheVariants.{Shutdown}
use Rattle.m386_step.specs.Step.{Follow}

-- An entry of a processor's plan: the number of completed steps from which on its vector may be requested, and the vector.
abbrev pub Plan : Type 0
Plan = List (ℕ × ℕ)

-- the front entry becomes the request before the step that follows j completed ones
abbrev pub is_requested : Plan → ℕ → Proc → Bool
is_requested [] j p = false
is_requested (e ∷ q) j p = is_none p.request && nat_le e.0 j

-- the state at the step's start
abbrev pub requested : Plan → ℕ → Proc → Proc
requested [] j p = p
requested (e ∷ q) j p = if is_requested (e ∷ q) j p then record p { request = Some e.1 } else p

-- what is left of the plan then
abbrev pub planned : Plan → ℕ → Proc → Plan
planned [] j p = []
planned (e ∷ q) j p = if is_requested (e ∷ q) j p then q else e ∷ q

-- The cycles ts are exactly k whole steps laid end to end, which lead from s, after j steps, to s2. No state before s2 is in
-- shutdown. A step without a cycle counts.
-- Own choice: docs/DECISIONS.md, "One step"
unfoldable pub Steps : ℕ → Plan → ℕ → Proc → List Ask → Proc → Type 0
Steps zero q j s ts s2 = (ts ≡ []) × (s2 ≡ s)
Steps (suc k) q j s ts s2 = (s.mode ≢ Shutdown) × (mid : Proc) × (rest : List Ask) × (Follow (requested q j s) ts ≡ Whole mid rest) × Steps k (planned q j s) (j + 1) mid rest s2

-- The cycles ts are a run of a processor with a budget of n steps: k whole steps, and fewer than n only where they end in
-- shutdown.
pub record Runs (q : Plan) (n : ℕ) (s : Proc) (ts : List Ask) (s2 : Proc) (k : ℕ) : Type 0 where
  pub steps : Steps k q 0 s ts s2
  pub budget : (k ≡ n) ⊎ ((k < n) × (s2.mode ≡ Shutdown))

-- the cycles that a bus gained are a run of the processor
pub record RunsOn (q : Plan) (n : ℕ) (s : Proc) (old new : BusView) (s2 : Proc) (k : ℕ) : Type 0 where
  pub added : List Ask
  pub cycles : new.cycles ≡ old.cycles ++ added
  pub runs : Runs q n s added s2 k
  pub same : SameBus old new

-- the cycles that a bus gained are fewer than n whole steps and a proper front of one more, whose next ask it refused
pub record StopsAmid (q : Plan) (n : ℕ) (s : Proc) (old new : BusView) (s2 : Proc) : Type 0 where
  pub whole : List Ask
  pub front : List Ask
  pub count : ℕ
  pub wanted : Ask
  pub cycles : new.cycles ≡ old.cycles ++ (whole ++ front)
  pub fewer : count < n
  pub steps : Steps count q 0 s whole s2
  pub wants : Follow s2 front ≡ Wants wanted
  pub refused : new.wanted ≡ Some wanted
