-- What a turn of several processors does to each of them.
use Rattle.std.specs.Prelude.{◌≡◌, ◌≢◌, ℕ, ◌<◌, ◌≤◌, Result, Ok, Err, ◌⊎◌}
use Rattle.m386_base.specs.declared.fault.NoMemory.{NoMemory}
use Rattle.m386_turns.specs.declared.turns.Turn.{Turn}
use Rattle.m386_turns.specs.declared.turns.Turn.TheVariants as turns

-- At most one processor is amid a locked group, and it is one of them and hasn't finished.
-- Own choice: docs/DECISIONS.md, "Turns"
pub record IsLawful (n : ℕ) (done amid : ℕ → Type 0) : Type 0 where
  pub below : (k : ℕ) → amid k → k < n
  pub unfinished : (k : ℕ) → amid k → ¬ done k
  pub alone : (j k : ℕ) → amid j → amid k → j ≡ k

-- what every turn leaves: as many processors, who had finished has, and none has made fewer cycles
pub record Stays {S : Type 0} (count : S → ℕ) (done : S → ℕ → Type 0) (made : S → ℕ → ℕ) (old new : S) : Type 0 where
  pub same_count : count new ≡ count old
  pub still_done : (k : ℕ) → done old k → done new k
  pub no_fewer : (k : ℕ) → made old k ≤ made new k

-- a processor other than this one is amid a locked group
abbrev pub IsHeldUp : (ℕ → Type 0) → ℕ → Type 0
IsHeldUp amid cpu = (k : ℕ) × (k ≢ cpu) × amid k

-- the processor made cycles: it hadn't finished, no other was amid a locked group, and afterwards none is
pub record MadeTurn {S : Type 0} (done amid : S → ℕ → Type 0) (made : S → ℕ → ℕ) (cpu : ℕ) (old new : S) : Type 0 where
  pub unfinished : ¬ done old cpu
  pub free : ¬ IsHeldUp (amid old) cpu
  pub more : made old cpu < made new cpu
  pub whole : (k : ℕ) → ¬ amid new k

-- the processor was passed over: it has finished, or another is amid a locked group, and nothing changed
pub record PassedTurn {S : Type 0} (done amid : S → ℕ → Type 0) (cpu : ℕ) (old new : S) : Type 0 where
  pub same : new ≡ old
  pub why : done old cpu ⊎ IsHeldUp (amid old) cpu
  pub other : ¬ amid old cpu

-- What came of a turn.
-- Own choice: docs/DECISIONS.md, "Turns"
abbrev pub TakesTurn : {S : Type 0} → (S → ℕ → Type 0) → (S → ℕ → Type 0) → (S → ℕ → ℕ) → ℕ → S → S → Result Turn NoMemory → Type 0
TakesTurn done amid made cpu old new (Ok turns.Made) = MadeTurn done amid made cpu old new
TakesTurn done amid made cpu old new (Ok turns.PassedOver) = PassedTurn done amid cpu old new
TakesTurn done amid made cpu old new (Err e) = Unit {0}

-- each processor has finished
abbrev pub AllDone : {S : Type 0} → (S → ℕ) → (S → ℕ → Type 0) → S → Type 0
AllDone count done s = (k : ℕ) → k < count s → done s k
