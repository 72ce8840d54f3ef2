-- The rule of a ticket lock, and what each step on its table tells. The words are the number of tickets drawn and the number served, modulo 2^64; the
-- slot has the record, which is at home where no seat has it. In the rule tickets are counted without bound.
-- Own choice: docs/DECISIONS.md, "The ticket arbiter"
use Rattle.std.specs.Prelude.{◌≡◌, ℕ, ◌+◌, ◌<◌, ◌≤◌, ◌%◌, ◌^◌, Bool, true, false, cond, List, [], ◌∷◌, ◌++◌, length, replicate, slice_index_or, take, drop}
use mathlib.Core.Option.{none, some}
use lib.ListN.{get_elem?}
use Rattle.atomic_table.specs.Table.{State, Me, Step}
use Rattle.m386_base.specs.declared.ask.Ask.{Ask}
use Rattle.m386_base.specs.declared.ask.Cycle.{Cycle}
use Rattle.m386_memory.specs.History.{RecordView, cycles_of}
use Rattle.m386_arbiter.specs.declared.rule.Opening.{Opening}
use Rattle.m386_arbiter.specs.declared.rule.View.{View}
use Rattle.m386_arbiter.specs.declared.rule.Stage.{Stage}
use Rattle.m386_arbiter.specs.declared.rule.Stage.TheVariants.{Idle, Queued, Holding}
use Rattle.m386_arbiter.specs.Below.{AllBelow}

-- the sum of a number of each view
abbrev pub total : (View → ℕ) → List View → ℕ
total f [] = 0
total f (v ∷ vs) = f v + total f vs

-- 1 where the seat has a ticket
abbrev pub tickets : Stage → ℕ
tickets Idle = 0
tickets (Queued t) = 1
tickets (Holding t found) = 1

-- the seat has the record
abbrev pub has_slot : Stage → Bool
has_slot Idle = false
has_slot (Queued t) = false
has_slot (Holding t found) = true

-- a ticket's number as the words have it
abbrev pub as_word : ℕ → ℕ
as_word t = t % 2 ^ 64

-- What the rule says of the stage of seat j, where these numbers were drawn and served, this is the history, the slot is out or not, and
-- `holder` gives the seat that drew each ticket. One that waits has a ticket of its own that isn't served yet or is served now; one that has the
-- record has the ticket that is served, and found this history.
abbrev pub FitsStage : ℕ → ℕ → List Cycle → Bool → (ℕ → ℕ) → ℕ → Stage → Type 0
FitsStage next served log out holder j Idle = Unit {0}
FitsStage next served log out holder j (Queued t) = (served ≤ t) × (t < next) × (holder t ≡ j)
FitsStage next served log out holder j (Holding t found) = (t ≡ served) × (t < next) × (holder t ≡ j) × (found ≡ log) × (out ≡ true)

-- the numbers from low on are this seat's, and these are their cycles
abbrev pub Owns : (ℕ → ℕ) → List Cycle → ℕ → ℕ → List (List Ask) → Type 0
Owns owner log j low turns = (i : ℕ) → i < length turns → (owner (low + i) ≡ j) × (slice_index_or turns i [] ≡ cycles_of (low + i) log)

-- What the rule says of seat j: it was told how many processors there are and the first contents, its numbers lie below the count and are its own,
-- and only a seat that stands for a number has a ticket.
pub record Fits (k : Opening) (next served : ℕ) (log : List Cycle) (out : Bool) (owner holder : ℕ → ℕ) (j : ℕ) (v : View) : Type 0 where
  pub opened : 0 < length v.turns → (v.count ≡ k.count) × (v.first ≡ k.first.value.first)
  pub inside : v.low + length v.turns ≤ k.count
  pub own : Owns owner log j v.low v.turns
  pub at_stage : FitsStage next served log out holder j v.stage
  pub has_share : tickets v.stage ≤ length v.turns

-- The rule. There are numbers of tickets drawn and served, a history, and for each number and each ticket the seat that it is of, so that: the words have the
-- two numbers; the record at home has the history, or else the seat whose ticket is served has it; as many tickets are out as seats have; each number
-- below the count is in one share, and there are at most eight; and every seat fits.
pub record Ruled (k : Opening) (s : State RecordView View) : Type 0 where
  pub next : ℕ
  pub served : ℕ
  pub log : List Cycle
  pub home : RecordView
  pub out : Bool
  pub owner : ℕ → ℕ
  pub holder : ℕ → ℕ
  pub words : s.words ≡ as_word next ∷ as_word served ∷ []
  pub homes : s.homes ≡ cond out none (some home) ∷ []
  pub at_home : out ≡ false → (home.cycles ≡ log) × (home.first ≡ k.first.value.first)
  pub away : out ≡ true → (v : View) × (get_elem? s.views (holder served) ≡ some v) × (has_slot v.stage ≡ true)
  pub queued : next ≡ served + total (λ v. tickets v.stage) s.views
  pub shares : total (λ v. length v.turns) s.views ≡ k.count
  pub few : k.count ≤ 8
  pub below : AllBelow k.count log
  pub each : (j : ℕ) (v : View) → get_elem? s.views j ≡ some v → Fits k next served log out owner holder j v

-- the first seat stands for all numbers, which have made no cycle
abbrev pub first_view : Opening → View
first_view k = record { low = 0; turns = replicate k.count []; stage = Idle; count = k.count; first = k.first.value.first }

-- a view at another stage
abbrev pub at : View → Stage → View
at v stage = record { low = v.low; turns = v.turns; stage = stage; count = v.count; first = v.first }

-- the seat has drawn a ticket
abbrev pub Drew : Step RecordView → Me RecordView View → ℕ → Me RecordView View → Type 0
Drew st m r m' = (t : ℕ) × (r ≡ as_word t) × (m' ≡ (at m.0 (Queued t), m.1))

-- what a seat learns where it takes the record
abbrev pub Served : ℕ → Me RecordView View → Me RecordView View → Type 0
Served t m m' =
    (x : RecordView) × (m' ≡ (at m.0 (Holding t x.cycles), (0, x) ∷ [])) × (x.first ≡ m.0.first) × AllBelow m.0.count x.cycles × (m.0.low + length m.0.turns ≤ m.0.count)
    × ((i : ℕ) → i < length m.0.turns → slice_index_or m.0.turns i [] ≡ cycles_of (m.0.low + i) x.cycles)

-- what a seat learns by the number that it reads as served: the record is its own where that is its ticket
abbrev pub LooksAt : Stage → Me RecordView View → ℕ → Me RecordView View → Type 0
LooksAt Idle m r m' = m' ≡ m
LooksAt (Queued t) m r m' = (r ≡ as_word t → Served t m m') × (¬ (r ≡ as_word t) → m' ≡ m)
LooksAt (Holding t found) m r m' = m' ≡ m

-- what a look tells
abbrev pub Looked : Step RecordView → Me RecordView View → ℕ → Me RecordView View → Type 0
Looked st m r m' = LooksAt m.0.stage m r m'

-- the seat after its turn, in which the record came to this
abbrev pub after_turn : View → List (ℕ × RecordView) → View
after_turn v [] = v
after_turn v (x ∷ xs) = record { low = v.low; turns = cycles_of v.low x.1.cycles ∷ []; stage = Idle; count = v.count; first = v.first }

-- what passing the turn on tells: the share is the seat's cycles in the record as it is given back
abbrev pub Passed : Step RecordView → Me RecordView View → ℕ → Me RecordView View → Type 0
Passed st m r m' = m' ≡ (after_turn m.0 m.1, [])

-- all shares but the first
abbrev pub rest_of : View → View
rest_of v = record { low = v.low + 1; turns = drop 1 v.turns; stage = v.stage; count = v.count; first = v.first }

-- the first share
abbrev pub first_of : View → View
first_of v = record { low = v.low; turns = take 1 v.turns; stage = Idle; count = v.count; first = v.first }

-- the shares of two seats, one behind the other
abbrev pub joined : View → View → View
joined v w = record { low = v.low; turns = v.turns ++ w.turns; stage = v.stage; count = v.count; first = v.first }

-- a seat that stands for no number any more
abbrev pub spent : View
spent = record { low = 0; turns = []; stage = Idle; count = 0; first = record { memory = []; ports = [] } }
