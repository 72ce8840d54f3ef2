-- What a machine keeps of one processor between two cycles.
use Rattle.std.specs.Prelude.{◌≡◌, ◌≢◌, ℕ, zero, suc, ◌+◌, ◌<◌, List, [], ◌∷◌, ◌++◌, length, Option, Some, None, Bool, true, false}
use Rattle.std.specs.List.{AllByRecursion}
use Rattle.m386_base.specs.declared.ask.Ask.{Ask}
use Rattle.m386_base.specs.Bus.{IsAsk, cycle_of}
use Rattle.m386_base.specs.Phrase.{Whole, Wants}
use Rattle.m386_base.specs.Replay.{AreTold}
use Rattle.m386_memory.specs.declared.ended.ProcEnd.{ProcEnd}
use Rattle.m386_state.specs.declared.proc.Mode.TheVariants.{Shutdown}
use Rattle.m386_state.specs.declared.proc.Proc.{Proc}
use Rattle.m386_step.specs.Step.{Follow}
use Rattle.m386_step.specs.Steps.{Plan, Runs, requested, planned}
use Rattle.m386_core.specs.declared.unfinished.Unfinished.{Unfinished}
use Rattle.m386_core.specs.Ahead.{agrees, first_joined, asked_of}

-- The cycles ts are exactly k whole steps laid end to end, which lead from s, after j steps, to s2, and left is what they
-- leave of the plan q. No state before s2 is in shutdown.
-- Own choice: docs/DECISIONS.md, "One step"
unfoldable pub StepsLeaving : ℕ → Plan → ℕ → Proc → List Ask → Proc → Plan → Type 0
StepsLeaving zero q j s ts s2 left = (ts ≡ []) × (s2 ≡ s) × (left ≡ q)
StepsLeaving (suc k) q j s ts s2 left = (s.mode ≢ Shutdown) × (mid : Proc) × (rest : List Ask) × (Follow (requested q j s) ts ≡ Whole mid rest) × StepsLeaving k (planned q j s) (j + 1) mid rest s2 left

-- The step from p was run ahead: these cycles are one whole step, which led it to this state, and those that have a value in
-- their place were answered it.
pub record Foresees (p : Proc) (answers : List ℕ) (cycles : List Ask) (after : Proc) : Type 0 where
  pub whole : Follow p cycles ≡ Whole after []
  pub told : agrees cycles answers ≡ true
  pub lawful : AllByRecursion IsAsk cycles
  pub opens : first_joined cycles ≡ false

-- a is the ask q but for the value of a read, which no cycle has of its ask
pub record IsSameAsk (a q : Ask) : Type 0 where
  pub cycles : (v : ℕ) → cycle_of a v ≡ cycle_of q v
  pub joined : a.joined ≡ q.joined

-- The cycles ts of a processor that began in s with the plan q are whole steps, fewer than n, which led it to e and leave
-- this of the plan, and then a proper front of one more, whose cycles were answered the kept values, and which asks for the
-- cycle a next. The kept cycles are that front and the rest of a whole step, of which a is the first ask.
pub record Waits (n : ℕ) (q : Plan) (s : Proc) (ts : List Ask) (e : ProcEnd Proc) (t : Unfinished) (left : Plan) (a : Ask) : Type 0 where
  pub whole : List Ask
  pub front : List Ask
  pub later : Ask
  pub rest : List Ask
  pub wanted : Ask
  pub cycles : ts ≡ whole ++ front
  pub steps : StepsLeaving e.steps q 0 s whole e.after left
  pub fewer : e.steps < n
  pub lives : e.after.mode ≢ Shutdown
  pub wants : Follow (requested left e.steps e.after) front ≡ Wants wanted
  pub same : IsSameAsk a wanted
  pub told : AreTold front t.answers.items
  pub count : length front ≡ length t.answers.items
  pub lawful : IsAsk a
  pub ahead : t.cycles.items ≡ front ++ later ∷ rest
  pub asks : a ≡ asked_of later
  pub foreseen : Follow (requested left e.steps e.after) t.cycles.items ≡ Whole t.after []
  pub lawful_all : AllByRecursion IsAsk t.cycles.items

-- The next cycle was answered: the front is one longer, and the kept cycles are it and the rest of a whole step.
pub record HearsOn (p : Proc) (front : List Ask) (answers : List ℕ) (cycles : List Ask) (after : Proc) : Type 0 where
  pub rest : List Ask
  pub ahead : cycles ≡ front ++ rest
  pub told : AreTold front answers
  pub count : length front ≡ length answers
  pub whole : Follow p cycles ≡ Whole after []
  pub lawful : AllByRecursion IsAsk cycles

-- it has finished where it asks for nothing next, and else it waits
abbrev pub EndsOrWaits : ℕ → Plan → Proc → List Ask → ProcEnd Proc → Unfinished → Plan → Option Ask → Type 0
EndsOrWaits n q s ts e t left None = Runs q n s ts e.after e.steps
EndsOrWaits n q s ts e t left (Some a) = Waits n q s ts e t left a

-- the next ask is joined to the cycle before it
abbrev pub is_joined : Option Ask → Bool
is_joined None = false
is_joined (Some a) = a.joined
