-- The seats that an arbiter gave, and the record that it gives at the end.
use Rattle.std.specs.Prelude.{◌≡◌, ℕ, ◌+◌, List, [], ◌∷◌}
use Rattle.atomic_table.specs.Seated.{TableId}
use Rattle.m386_base.specs.declared.ask.Ask.{Ask}
use Rattle.m386_base.specs.declared.ask.Cycle.{Cycle}
use Rattle.m386_memory.specs.Contents.{Contents}
use Rattle.m386_memory.specs.History.{cycles_of}
use Rattle.m386_arbiter.specs.declared.seats.Arbiter.{Arbiter}
use Rattle.m386_arbiter.specs.declared.seats.BusSeat.{BusSeat}
use Rattle.m386_arbiter.specs.Seats.{own_cycles}

-- which table an arbiter has
abbrev pub table_of : Arbiter → TableId
table_of a = a.table.shared.table_id

-- the contents of the store that the arbiter's record began with
abbrev pub contents_of : Arbiter → Contents
contents_of a = a.table.shared.key.first.value.first

-- the cycles that the seat's processor has made
abbrev pub made_by : BusSeat → List Ask
made_by s = own_cycles s.seat.me

-- the seat's table and number, as one list of numbers: equal lists are of one table and one number
abbrev pub origin_of : TableId → ℕ → List ℕ
origin_of z n = n ∷ z.words ∷ z.slots ∷ z.views_name ∷ z.atom ∷ z.block ∷ z.offset ∷ z.slot_names

-- these are seats of this table, numbered from n on
abbrev pub AreSeats : TableId → ℕ → List BusSeat → Type 0
AreSeats z n [] = Unit {0}
AreSeats z n (s ∷ ss) = (s.seat.table_id ≡ z) × (s.number ≡ n) × AreSeats z (n + 1) ss

-- each seat's own cycles are the cycles of its number in the history, each once and in order, from n on
abbrev pub AllOwn : List Cycle → ℕ → List (List Ask) → Type 0
AllOwn H n [] = Unit {0}
AllOwn H n (l ∷ ls) = (l ≡ cycles_of n H) × AllOwn H (n + 1) ls

-- nobody has made a cycle
abbrev pub NoneYet : List BusSeat → Type 0
NoneYet [] = Unit {0}
NoneYet (s ∷ ss) = (made_by s ≡ []) × NoneYet ss

-- the same seat, maybe with more cycles
abbrev pub IsOf : BusSeat → BusSeat → Type 0
IsOf s t = (t.seat.table_id ≡ s.seat.table_id) × (t.number ≡ s.number)
