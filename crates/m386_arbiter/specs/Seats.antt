-- What is known of a seat before, in and after its turn.
use Rattle.std.specs.Prelude.{◌≡◌, ◌≢◌, ℕ, ◌<◌, Bool, true, false, Some, List, [], ◌∷◌, length, slice_index_or}
use Rattle.atomic_table.specs.Table.{Me}
use Rattle.m386_base.specs.declared.ask.Ask.{Ask}
use Rattle.m386_base.specs.declared.ask.Cycle.{Cycle}
use Rattle.m386_memory.specs.History.{RecordView, past, last_cpu, cycles_of}
use Rattle.m386_arbiter.specs.declared.rule.View.{View}
use Rattle.m386_arbiter.specs.declared.rule.Stage.TheVariants.{Idle, Holding}
use Rattle.m386_arbiter.specs.Below.{AllBelow}

-- a seat of one number, without a ticket
pub record IsIdle (number : ℕ) (me : Me RecordView View) : Type 0 where
  pub low : me.0.low ≡ number
  pub one : length me.0.turns ≡ 1
  pub idle : me.0.stage ≡ Idle
  pub empty : me.1 ≡ []

-- A seat of one number, with the record: it began with the first contents, its cycles are of the processors below the count, and all but this number's own
-- are as they were found.
pub record IsBusy (number : ℕ) (me : Me RecordView View) : Type 0 where
  pub ticket : ℕ
  pub found : List Cycle
  pub held : RecordView
  pub low : me.0.low ≡ number
  pub one : length me.0.turns ≡ 1
  pub stage : me.0.stage ≡ Holding ticket found
  pub slot : me.1 ≡ (0, held) ∷ []
  pub start : held.first ≡ me.0.first
  pub inside : number < me.0.count
  pub below : AllBelow me.0.count held.cycles
  pub others : (p : ℕ) → p ≢ number → cycles_of p held.cycles ≡ cycles_of p found

-- the cycles of a seat's number: those of its share, or those in the record where it has it
abbrev pub own_of : View → List (ℕ × RecordView) → List Ask
own_of v [] = slice_index_or v.turns 0 []
own_of v (x ∷ xs) = cycles_of v.low x.1.cycles

-- the cycles that this seat's processor has made
abbrev pub own_cycles : Me RecordView View → List Ask
own_cycles m = own_of m.0 m.1

-- the record in hand ends with a cycle of this number
abbrev pub EndsIn : ℕ → List (ℕ × RecordView) → Type 0
EndsIn n [] = ⊥
EndsIn n (x ∷ xs) = last_cpu (past x.1.cycles) ≡ Some n

-- the seat has the record amid a group, or it hasn't
abbrev pub Sits : Bool → ℕ → Me RecordView View → Type 0
Sits true number me = IsBusy number me × EndsIn number me.1
Sits false number me = IsIdle number me
