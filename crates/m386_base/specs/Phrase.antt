-- What a processor says on its bus, as a tree: what is asked next follows from the values read alone.
use Rattle.std.specs.Prelude.{◌≡◌, ℕ, Option, Some, None, Bool, true, false, not, List, [], ◌∷◌, ◌++◌, if◌then◌else◌, cond, ◌&&◌, eqb, ◌≤◌, Result, Ok, Err, bit_and, refl}
use Rattle.m386_base.specs.declared.ask.Ask.{Ask}
use Rattle.m386_base.specs.declared.fault.Fault.{Fault}
use Rattle.m386_base.specs.declared.fault.Stop.{Stop}
use Rattle.m386_base.specs.declared.fault.Break.{Break}
use Rattle.m386_base.specs.declared.fault.Break.TheVariants as breaks
use Rattle.m386_base.specs.declared.kind.SwitchKind.{SwitchKind}
use Rattle.m386_base.specs.declared.ask.Space.{Space}
use Rattle.m386_base.specs.declared.ask.Space.TheVariants as spaces
use Rattle.m386_base.specs.declared.ask.Role.{Role}
use Rattle.m386_base.specs.declared.ask.Role.TheVariants as roles
use Rattle.m386_base.specs.declared.fault.Stop.TheVariants as stops
use Rattle.m386_base.specs.Bus.{BusView, Rose, mask}

-- What is known where the work of a task switch begins: its kind, whether no gate was used, the selector, EXT, CPL, TR and
-- the GDT register.
-- Source: Intel 80386 PRM 7.5
pub record Attempt : Type 0 where
  pub kind : SwitchKind
  pub direct : Bool
  pub selector : ℕ
  pub ext : Bool
  pub cpl : ℕ
  pub tr_usable : Bool
  pub tr_selector : ℕ
  pub tr_base : ℕ
  pub gdt_base : ℕ
  pub gdt_limit : ℕ

-- Done: it ends, having found a value. Faults: it ends in an exception. Asks: one cycle, and what follows from the value
-- read, 0 for a write. Begins: no cycle; the work of a task switch begins here.
-- Own choice: docs/DECISIONS.md, "A step is a tree of asks"
pub data Phrase (A : Type 0) : Type 0 where
  Done : A → Phrase A
  Faults : Fault → Phrase A
  Asks : Ask → (ℕ → Phrase A) → Phrase A
  Begins : Attempt → Phrase A → Phrase A

-- one phrase, and then the one that follows from what it found
infixl 10 ◌>>=◌
unfoldable pub ◌>>=◌ : {A B : Type 0} → Phrase A → (A → Phrase B) → Phrase B
(Done a) >>= f = f a
(Faults x) >>= f = Faults x
(Asks q k) >>= f = Asks q (λ v. k v >>= f)
(Begins m t) >>= f = Begins m (t >>= f)

-- a phrase, and what follows from its end or from its fault
unfoldable pub either : {A B : Type 0} → Phrase A → (A → Phrase B) → (Fault → Phrase B) → Phrase B
either (Done a) f g = f a
either (Faults x) f g = g x
either (Asks q k) f g = Asks q (λ v. either (k v) f g)
either (Begins m t) f g = Begins m (either t f g)

abbrev pub space_number : Space → ℕ
space_number spaces.Memory = 0
space_number spaces.Port = 1

-- the place of a role in the list of roles
abbrev pub role_number : Role → ℕ
role_number roles.Fetch = 0
role_number roles.Operand = 1
role_number roles.Push = 2
role_number roles.Pop = 3
role_number roles.Flags = 4
role_number roles.Gdt = 5
role_number roles.Ldt = 6
role_number roles.Idt = 7
role_number roles.GdtAcc = 8
role_number roles.LdtAcc = 9
role_number roles.Tss = 10
role_number roles.ClaimJmp = 11
role_number roles.ClaimCall = 12
role_number roles.ClaimStart = 13
role_number roles.ClaimLtr = 14
role_number roles.Save = 15
role_number roles.Link = 16
role_number roles.Back = 17
role_number roles.RelJmp = 18
role_number roles.RelRet = 19
role_number roles.Load = 20
role_number roles.Inner = 21
role_number roles.Map = 22
role_number roles.Lgdt = 23
role_number roles.Lidt = 24

abbrev pub agree : Bool → Bool → Bool
agree true b = b
agree false b = not b

-- this cycle was made of this ask: all but the value of a read is the same
unfoldable pub matches : Ask → Ask → Bool
matches q t =
    eqb (space_number q.space) (space_number t.space) && agree q.write t.write && agree q.joined t.joined
    && eqb (role_number q.role) (role_number t.role) && eqb q.part t.part && eqb q.addr t.addr && eqb q.enables t.enables
    && (if q.write then eqb q.value t.value else eqb (bit_and t.value (mask t.enables)) t.value)

-- what a call is answered by a cycle
unfoldable pub answer_of : Ask → ℕ
answer_of t = if t.write then 0 else t.value

-- Whole: a front of the cycles is the phrase, which found a value, and the rest follows. Faulted: a front is the phrase up
-- to its fault. Wants: all of them are a proper front, and this is asked next. Wrong: one isn't the cycle made there.
pub data Judgement (A : Type 0) : Type 0 where
  Whole : A → List Ask → Judgement A
  Faulted : Fault → List Ask → Judgement A
  Wants : Ask → Judgement A
  Wrong : Judgement A

-- judges cycles, from the first on
unfoldable pub follow : {A : Type 0} → Phrase A → List Ask → Judgement A
follow (Done a) ts = Whole a ts
follow (Faults f) ts = Faulted f ts
follow (Asks q k) [] = Wants q
follow (Begins m t) ts = follow t ts
follow (Asks q k) (t ∷ ts) = cond (matches q t) (follow (k (answer_of t)) ts) Wrong

-- The law of phrases: laid end to end they are judged one after another.
abbrev pub after : {A B : Type 0} → Judgement A → (A → List Ask → Judgement B) → Judgement B
after (Whole a rest) f = f a rest
after (Faulted x rest) f = Faulted x rest
after (Wants q) f = Wants q
after Wrong f = Wrong

pub follow->>= : {A B : Type 0} (t : Phrase A) (f : A → Phrase B) (ts : List Ask) → follow (t >>= f) ts ≡ after (follow t ts) (λ a rest. follow (f a) rest)
unfolding ◌>>=◌ follow
follow->>= (Done a) f ts = refl
follow->>= (Faults x) f ts = refl
follow->>= (Begins m t) f ts = follow->>= t f ts
follow->>= (Asks q k) f [] = refl
follow->>= {B = B} (Asks q k) f (t ∷ ts) =
    elim (matches q t) as (λ b. cond b (follow (k (answer_of t) >>= f) ts) Wrong ≡ after (cond b (follow (k (answer_of t)) ts) Wrong) (λ a rest. follow (f a) rest)) [
      | true ↦ follow->>= (k (answer_of t)) f ts
      | false ↦ refl
    ]

abbrev pub after_either : {A B : Type 0} → Judgement A → (A → List Ask → Judgement B) → (Fault → List Ask → Judgement B) → Judgement B
after_either (Whole a rest) f g = f a rest
after_either (Faulted x rest) f g = g x rest
after_either (Wants q) f g = Wants q
after_either Wrong f g = Wrong

pub follow-either : {A B : Type 0} (t : Phrase A) (f : A → Phrase B) (g : Fault → Phrase B) (ts : List Ask) → follow (either t f g) ts ≡ after_either (follow t ts) (λ a rest. follow (f a) rest) (λ x rest. follow (g x) rest)
unfolding either follow
follow-either (Done a) f g ts = refl
follow-either (Faults x) f g ts = refl
follow-either (Begins m t) f g ts = follow-either t f g ts
follow-either (Asks q k) f g [] = refl
follow-either {B = B} (Asks q k) f g (t ∷ ts) =
    elim (matches q t) as (λ b. cond b (follow (either (k (answer_of t)) f g) ts) Wrong ≡ after_either (cond b (follow (k (answer_of t)) ts) Wrong) (λ a rest. follow (f a) rest) (λ x rest. follow (g x) rest)) [
      | true ↦ follow-either (k (answer_of t)) f g ts
      | false ↦ refl
    ]

-- the same bus, which hasn't stopped since
pub record SameBus (old new : BusView) : Type 0 where
  pub stops : new.stops ≡ old.stops
  pub pauses : new.pauses ≡ old.pauses
  pub origin : new.origin ≡ old.origin

-- the same bus, which has stopped and is free
pub record Stopped (old new : BusView) (s : Stop) : Type 0 where
  pub kept : new.kept ≡ false
  pub never_falls : old.stops ≤ new.stops
  pub rose : Rose old.stops new.stops
  pub pauses : new.pauses ≡ old.pauses
  pub origin : new.origin ≡ old.origin
  pub why : s ≡ (if old.pauses then stops.Paused else stops.Memory)

-- The cycles that a call added to its bus are the whole of the phrase, which found a.
pub record Completes {A : Type 0} (t : Phrase A) (old new : BusView) (a : A) : Type 0 where
  pub added : List Ask
  pub cycles : new.cycles ≡ old.cycles ++ added
  pub whole : (rest : List Ask) → follow t (added ++ rest) ≡ Whole a rest
  pub same : SameBus old new

-- what the cycles of a call that was broken off are to its phrase
abbrev pub IsBrokenAt : {A : Type 0} → Phrase A → List Ask → Option Ask → Break → Type 0
IsBrokenAt t ts wanted (breaks.Fault f) = (rest : List Ask) → follow t (ts ++ rest) ≡ Faulted f rest
IsBrokenAt t ts wanted (breaks.Stop s) = (q : Ask) × (follow t ts ≡ Wants q) × (wanted ≡ Some q)

abbrev pub Leaves : BusView → BusView → Break → Type 0
Leaves old new (breaks.Fault f) = SameBus old new
Leaves old new (breaks.Stop s) = Stopped old new s

-- The cycles that a call added are the phrase up to a fault that it found, or to where its bus stopped it.
pub record BreaksOff {A : Type 0} (t : Phrase A) (old new : BusView) (b : Break) : Type 0 where
  pub added : List Ask
  pub cycles : new.cycles ≡ old.cycles ++ added
  pub broken : IsBrokenAt t added new.wanted b
  pub leaves : Leaves old new b

-- What a call does on its bus, and what it found: `seen` says what of the result counts as found.
abbrev pub Performs : {R A : Type 0} → Phrase A → BusView → BusView → (R → A) → Result R Break → Type 0
Performs t old new seen (Ok r) = Completes t old new (seen r)
Performs t old new seen (Err b) = BreaksOff t old new b

-- the same of a call that finds no fault
abbrev pub PerformsOrStops : {R A : Type 0} → Phrase A → BusView → BusView → (R → A) → Result R Stop → Type 0
PerformsOrStops t old new seen (Ok r) = Completes t old new (seen r)
PerformsOrStops t old new seen (Err s) = BreaksOff t old new (breaks.Stop s)

-- The same of a call whose fault may be seen in a new state. `ran now fault` is what the phrase found, of the state that the
-- call left and of the fault that is pending in it: none at Ok, and its fault at a fault. Where its bus stopped it, the state
-- is as before.
-- Own choice: docs/DECISIONS.md, "A fault in a new task"
abbrev pub PerformsRan : {R S A : Type 0} → Phrase A → BusView → BusView → (S → Option Fault → A) → S → S → Result R Break → Type 0
PerformsRan t old new ran before now (Ok r) = Completes t old new (ran now None)
PerformsRan t old new ran before now (Err (breaks.Fault f)) = Completes t old new (ran now (Some f))
PerformsRan t old new ran before now (Err (breaks.Stop s)) = BreaksOff t old new (breaks.Stop s) × (now ≡ before)

-- the result itself
abbrev pub it : {A : Type 0} → A → A
it a = a

-- one cycle
abbrev pub one : Ask → Phrase ℕ
one q = Asks q Done

-- A loop has come from the whole phrase to this rest: whatever the rest makes from here on, the whole has made.
pub record Continues {A : Type 0} (whole : Phrase A) (old : BusView) (rest : Phrase A) (now : BusView) : Type 0 where
  pub completes : (new : BusView) (a : A) → Completes rest now new a → Completes whole old new a
  pub breaks : (new : BusView) (b : Break) → BreaksOff rest now new b → BreaksOff whole old new b

-- the cycles added since are judged so
abbrev pub IsJudged : {A : Type 0} → Phrase A → BusView → BusView → Judgement A → Type 0
IsJudged t old new verdict = (ts : List Ask) × (new.cycles ≡ old.cycles ++ ts) × (follow t ts ≡ verdict)

-- the bus is freed, and nothing else happens on it
pub record Frees (old new : BusView) : Type 0 where
  pub cycles : new.cycles ≡ old.cycles
  pub kept : new.kept ≡ false
  pub same : SameBus old new
