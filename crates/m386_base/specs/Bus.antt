-- What a contract sees of a bus, and what one cycle does to it.
use Rattle.std.specs.Prelude.{◌≡◌, ℕ, ◌+◌, ◌%◌, ◌<◌, ◌≤◌, ◌^◌, Bool, true, false, Option, Some, None, List, [], ◌∷◌, ◌++◌, Result, Ok, Err, if◌then◌else◌, ◌⊎◌, bit_and, ◌==◌, ◌-◌}
use Rattle.std.specs.Coded.{Unit-prop, le_prop}
use denote.Struct.Props.{props}
use Rattle.m386_base.specs.declared.ask.Ask.{Ask}
use Rattle.m386_base.specs.declared.fault.Stop.{Stop}
use Rattle.m386_base.specs.declared.fault.Stop.TheVariants as stops
use Rattle.m386_base.specs.declared.ask.Space.{Space}
use Rattle.m386_base.specs.declared.ask.Space.TheVariants as spaces

-- A bus as its processor sees it: the cycles made, each read with its value; whether the bus is kept for the
-- next cycle; how often it has stopped; whether it pauses where it stops; what it was made with; and the ask that it
-- refused last.
pub record BusView : Type 0 where
  pub cycles : List Ask
  pub kept : Bool
  pub stops : ℕ
  pub pauses : Bool
  pub origin : List ℕ
  pub wanted : Option Ask

-- The bits of the enabled bytes of a group.
-- Own choice: docs/DECISIONS.md, "The form of a bus cycle"
abbrev pub mask : ℕ → ℕ
mask enables =
    (if bit_and enables 1 == 0 then 0 else 0xff) + (if bit_and enables 2 == 0 then 0 else 0xff00)
    + (if bit_and enables 4 == 0 then 0 else 0xff0000) + (if bit_and enables 8 == 0 then 0 else 0xff000000)

-- a value with nothing in the bytes that aren't enabled
abbrev pub IsEnabled : ℕ → ℕ → Type 0
IsEnabled enables value = bit_and value (mask enables) ≡ value

-- where a group may stand
abbrev pub IsInSpace : Space → ℕ → Type 0
IsInSpace spaces.Memory addr = Unit {0}
IsInSpace spaces.Port addr = addr < 2 ^ 16

-- What may be asked of a bus: an aligned group inside its space, with some bytes enabled.
-- Own choice: docs/DECISIONS.md, "The form of a bus cycle"
pub record IsAsk (a : Ask) : Type 0 where
  pub aligned : a.addr % 4 ≡ 0
  pub inside : IsInSpace a.space a.addr
  pub some : 0 < a.enables
  pub group : a.enables < 16
  pub part : a.part < 100
  pub value : IsEnabled a.enables a.value

pub IsInSpace-prop : (space : Space) (addr : ℕ) → IsProp (IsInSpace space addr)
IsInSpace-prop spaces.Memory addr = Unit-prop
IsInSpace-prop spaces.Port addr = le_prop

pub IsAsk-prop : (a : Ask) → IsProp (IsAsk a)
IsAsk-prop a = hlevel (IsInSpace-prop, props)

-- the cycle that is made of an ask, where this value was answered
unfoldable pub cycle_of : Ask → ℕ → Ask
cycle_of a v = if a.write then a else record a { value = v }

-- a count rose, or stands at its last value
abbrev pub Rose : ℕ → ℕ → Type 0
Rose old new = (old < new) ⊎ (new ≡ 2 ^ 64 - 1)

-- a stop frees the bus, adds no cycle, and is counted
pub record Stops (a : Ask) (old new : BusView) (s : Stop) : Type 0 where
  pub wanted : new.wanted ≡ Some a
  pub cycles : new.cycles ≡ old.cycles
  pub kept : new.kept ≡ false
  pub never_falls : old.stops ≤ new.stops
  pub rose : Rose old.stops new.stops
  pub pauses : new.pauses ≡ old.pauses
  pub origin : new.origin ≡ old.origin
  pub why : s ≡ (if old.pauses then stops.Paused else stops.Memory)

-- what a bus answers to an ask
pub record Answered (a : Ask) (keep : Bool) (old new : BusView) (v : ℕ) : Type 0 where
  pub view : new ≡ record old { cycles = old.cycles ++ cycle_of a v ∷ []; kept = keep }
  pub none : a.write ≡ true → v ≡ 0
  pub value : IsEnabled a.enables v

abbrev pub Answers : Ask → Bool → BusView → BusView → Result ℕ Stop → Type 0
Answers a keep old new (Ok v) = Answered a keep old new v
Answers a keep old new (Err s) = Stops a old new s

-- a bus that pauses and has made no cycle
abbrev pub empty_view : BusView
empty_view = record { cycles = []; kept = false; stops = 0; pauses = true; origin = []; wanted = None }
