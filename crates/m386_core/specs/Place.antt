-- Where a processor is after some of its cycles.
use Rattle.std.specs.Prelude.{◌≡◌, ◌≢◌, ℕ, zero, suc, ◌+◌, ◌<◌, ◌⊎◌, true, List}
use Rattle.m386_base.specs.declared.ask.Ask.{Ask}
use Rattle.m386_base.specs.declared.ask.Cycle.{Cycle}
use Rattle.m386_base.specs.Phrase.{Whole, Wants}
use Rattle.m386_image.specs.declared.image.Image.{Image}
use Rattle.m386_memory.specs.History.{cycles_of}
use Rattle.m386_memory.specs.declared.ended.ProcEnd.{ProcEnd}
use Rattle.m386_state.specs.declared.proc.Mode.TheVariants.{Shutdown}
use Rattle.m386_state.specs.declared.proc.Proc.{Proc}
use Rattle.m386_step.specs.Run.{start_of, plan_of}
use Rattle.m386_step.specs.Step.{Follow}
use Rattle.m386_step.specs.Steps.{Plan, Runs, requested, planned}

-- The cycles ts are k whole steps laid end to end, which lead from s, after j steps, to s2, and then a proper front of one
-- more step, which asks for the cycle a next. No state up to s2 is in shutdown.
-- Own choice: docs/DECISIONS.md, "One step"
unfoldable pub Amid : ℕ → Plan → ℕ → Proc → List Ask → Proc → Ask → Type 0
Amid zero q j s ts s2 a = (s.mode ≢ Shutdown) × (s2 ≡ s) × (Follow (requested q j s) ts ≡ Wants a)
Amid (suc k) q j s ts s2 a = (s.mode ≢ Shutdown) × (mid : Proc) × (rest : List Ask) × (Follow (requested q j s) ts ≡ Whole mid rest) × Amid k (planned q j s) (j + 1) mid rest s2 a

-- After the history H processor p of the image I has used its budget of n steps, or has shut down before, and this is how it
-- ended.
abbrev pub HasFinishedAs : Image → ℕ → List Cycle → ℕ → ProcEnd Proc → Type 0
HasFinishedAs I n H p e = Runs (plan_of I p) n (start_of I p) (cycles_of p H) e.after e.steps

-- After the history H processor p has whole steps behind it that led it to e, fewer than n, and asks for the cycle a next.
pub record WaitsAs (I : Image) (n : ℕ) (H : List Cycle) (p : ℕ) (e : ProcEnd Proc) (a : Ask) : Type 0 where
  pub fewer : e.steps < n
  pub amid : Amid e.steps (plan_of I p) 0 (start_of I p) (cycles_of p H) e.after a

-- processor p has finished
abbrev pub HasFinished : Image → ℕ → List Cycle → ℕ → Type 0
HasFinished I n H p = (e : ProcEnd Proc) × HasFinishedAs I n H p e

-- processor p asks for the cycle a next
abbrev pub Awaits : Image → ℕ → List Cycle → ℕ → Ask → Type 0
Awaits I n H p a = (e : ProcEnd Proc) × WaitsAs I n H p e a

-- processor q is amid a locked group: the cycle that it asks for next is joined to its last
abbrev pub IsAmidGroup : Image → ℕ → ℕ → List Cycle → ℕ → Type 0
IsAmidGroup I c n H q = (q < c) × ((a : Ask) × Awaits I n H q a × (a.joined ≡ true))

-- Processor p is passed over: it has finished, or another is amid a locked group.
-- Own choice: docs/DECISIONS.md, "Orders"
abbrev pub IsPassedOver : Image → ℕ → ℕ → List Cycle → ℕ → Type 0
IsPassedOver I c n H p = HasFinished I n H p ⊎ ((q : ℕ) × (q ≢ p) × IsAmidGroup I c n H q)
