-- The loops of a run, turn by turn.
use Rattle.std.proofs.Common.{◌≡◌, ℕ, ◌+◌, ◌/◌, ◌%◌, ◌^◌, ◌<◌, ◌≤◌, ltb, List, [], ◌∷◌, length, drop, filter, get_or, refl, sym, ap, ◌∙◌, arith, add-zero, inl, inr, Result, Ok, Err}
use Rattle.std.specs.Result.{OnOk}
use Rattle.std.proofs.lemmas.Option.{slice_get_within}
use Rattle.m386_memory.specs.History.{cycles_of}
use Rattle.m386_memory.specs.declared.ended.ProcEnd.{ProcEnd}
use Rattle.m386_state.specs.declared.proc.Proc.{Proc}
use Rattle.m386_step.specs.Run.{Run, start_of, plan_of}
use Rattle.m386_step.specs.Steps.{Runs}
use Rattle.m386_core.specs.Place.{HasFinished}
use Rattle.m386_core.proofs.Groups.{awaits_not_finished}
use Rattle.std.proofs.Math.Nat.{mod-eq_of_lt}
use Rattle.std.proofs.lemmas.Bool.{lt-ltb, le-ltb}
use Rattle.std.proofs.lemmas.List.{at_drop_more, drop_all}
use Rattle.m386_turns.specs.declared.turns.Turn.{Turn}
use Rattle.m386_turns.specs.declared.turns.Turn.TheVariants as turns
use Rattle.m386_core.specs.declared.order.Order.{Order}
use Rattle.m386_core.specs.Machine.{MachineView, IsPlaced, IsMachine, PassesOver, MakesCycle, GoesOn}
use Rattle.m386_core.specs.Order.{Naming, beginning, Turns, Listed, Drawn, listed, passed, followed, draw_of}
use Rattle.m386_core.specs.Running.{OrderAt, Rises, IsOver}
use Rattle.m386_core.proofs.Orders.{stands_first, goes_nowhere, goes_then, goes_cycle, turns_rise, drawn_rise, stands_passed, stands_made}

-- what a turn that made a cycle says of an order
abbrev pub TakesTurn : ℕ → ℕ → MachineView → MachineView → Type 0
TakesTurn first made old new = (order : Order) (a : ℕ) (f : ℕ → Naming) → first ≡ a % old.cpus → Rises old.cpus a f → OrderAt order old (f 0) → (i : ℕ) × (made ≡ (a + i) % old.cpus) × OrderAt order new (followed (f i))

-- what one that failed says of it
abbrev pub LosesTurn : ℕ → MachineView → MachineView → Type 0
LosesTurn first old new = (order : Order) (a : ℕ) (f : ℕ → Naming) → first ≡ a % old.cpus → Rises old.cpus a f → OrderAt order old (f 0) → (i : ℕ) × OrderAt order new (f i)

-- ---- in turn

pub record TurnsRun (old now : MachineView) (number : ℕ) : Type 0 where
  pub goes : GoesOn old now
  pub below : number < old.cpus
  pub order : (order : Order) → OrderAt order old (Turns 0) → (n : ℕ) × (number ≡ n % old.cpus) × OrderAt order now (Turns n)

pub turns_begin : (m : MachineView) → IsMachine m → TurnsRun m m 0
turns_begin m k = record {
  goes = goes_nowhere m k;
  below = omega (arith, k.some);
  order = λ order s. (0, sym (let lt : 0 < m.cpus = omega (arith, k.some) in mod-eq_of_lt lt), s);
}

pub turns_next : (old now new : MachineView) (number made next : ℕ) → TurnsRun old now number → GoesOn now new → TakesTurn number made now new → next < old.cpus → ((a : ℕ) → made ≡ a % old.cpus → next ≡ (a + 1) % old.cpus) → TurnsRun old new next
turns_next old now new number made next t goes turn below follows = record {
  goes = goes_then old now new t.goes goes;
  below = below;
  order = λ order s. (
      let so = t.order order s in
      let first : number ≡ so.0 % now.cpus = rw t.goes.same.cpus so.1 in
      let here : OrderAt order now (Turns (so.0 + 0)) = rw add-zero so.2 in
      let r = turn order so.0 (λ i. Turns (so.0 + i)) first (turns_rise now.cpus so.0) here in
      let by : made ≡ (so.0 + r.0) % old.cpus = r.1 ∙ ap (λ (c : ℕ). (so.0 + r.0) % c) t.goes.same.cpus in
      (so.0 + r.0 + 1, follows (so.0 + r.0) by, r.2));
}

pub turns_lost : (old now new : MachineView) (number : ℕ) → TurnsRun old now number → LosesTurn number now new → (order : Order) → OrderAt order old (Turns 0) → (s : Naming) × OrderAt order new s
turns_lost old now new number t lost order s =
    let so = t.order order s in
    let first : number ≡ so.0 % now.cpus = rw t.goes.same.cpus so.1 in
    let here : OrderAt order now (Turns (so.0 + 0)) = rw add-zero so.2 in
    let r = lost order so.0 (λ i. Turns (so.0 + i)) first (turns_rise now.cpus so.0) here in
    (Turns (so.0 + r.0), r.1)

-- ---- by numbers that are drawn

pub record DrawnRun (seed : ℕ) (old now : MachineView) (x : ℕ) : Type 0 where
  pub goes : GoesOn old now
  pub order : (order : Order) → OrderAt order old (Drawn (draw_of seed) 0) → OrderAt order now (Drawn (draw_of x) 0)

pub drawn_begin : (seed : ℕ) (m : MachineView) → IsMachine m → DrawnRun seed m m seed
drawn_begin seed m k = record { goes = goes_nowhere m k; order = λ order s. s }

pub drawn_next : (seed : ℕ) (old now new : MachineView) (x y first made : ℕ) → DrawnRun seed old now x → y ≡ draw_of x → first ≡ (y / 2 ^ 33) % now.cpus → GoesOn now new → TakesTurn first made now new → DrawnRun seed old new y
drawn_next seed old now new x y first made t e first_is goes turn = record {
  goes = goes_then old now new t.goes goes;
  order = λ order s. (
      let here : OrderAt order now (Drawn y 0) = rw e (t.order order s) in
      (turn order (y / 2 ^ 33) (λ i. Drawn y i) first_is (drawn_rise now.cpus y) here).2);
}

pub drawn_lost : (seed : ℕ) (old now new : MachineView) (x y first : ℕ) → DrawnRun seed old now x → y ≡ draw_of x → first ≡ (y / 2 ^ 33) % now.cpus → LosesTurn first now new → (order : Order) → OrderAt order old (Drawn (draw_of seed) 0) → (s : Naming) × OrderAt order new s
drawn_lost seed old now new x y first t e first_is lost order s =
    let here : OrderAt order now (Drawn y 0) = rw e (t.order order s) in
    let r = lost order (y / 2 ^ 33) (λ i. Drawn y i) first_is (drawn_rise now.cpus y) here in
    (Drawn y r.0, r.1)

-- ---- by a list

-- the members below the count
abbrev pub within : ℕ → List ℕ → List ℕ
within c members = filter (λ p. ltb p c) members

pub record ListedRun (members : List ℕ) (old now : MachineView) (i : ℕ) : Type 0 where
  pub goes : GoesOn old now
  pub order : (order : Order) → OrderAt order old (listed (within old.cpus members)) → OrderAt order now (listed (within old.cpus (drop i members)))

pub listed_begin : (members : List ℕ) (m : MachineView) → IsMachine m → ListedRun members m m 0
listed_begin members m k = record { goes = goes_nowhere m k; order = λ order s. s }

within_other : (c p : ℕ) (rest : List ℕ) → c ≤ p → within c (p ∷ rest) ≡ within c rest
within_other c p rest le = rw (le-ltb p c le) refl

within_one : (c p : ℕ) (rest : List ℕ) → p < c → within c (p ∷ rest) ≡ p ∷ within c rest
within_one c p rest lt = rw (lt-ltb p c lt) refl

pub listed_skips : (members : List ℕ) (old now : MachineView) (i : ℕ) → i < length members → ListedRun members old now i → old.cpus ≤ get_or members i 0 → ListedRun members old now (i + 1)
listed_skips members old now i lt t le =
    let e : listed (within old.cpus (drop i members)) ≡ listed (within old.cpus (drop (i + 1) members)) = at_drop_more (λ (xs : List ℕ). listed (within old.cpus xs)) members i 0 lt ∙ ap listed (within_other old.cpus (get_or members i 0) (drop (i + 1) members) le) in
    record { goes = t.goes; order = λ order s. rw e at (t.order order s) }

-- the order stands at the next member
at_member : (members : List ℕ) (old now : MachineView) (i : ℕ) → i < length members → ListedRun members old now i → get_or members i 0 < old.cpus → (order : Order) → OrderAt order old (listed (within old.cpus members)) → OrderAt order now (Listed (get_or members i 0) (within old.cpus (drop (i + 1) members)))
at_member members old now i lt t below order s =
    let e : listed (within old.cpus (drop i members)) ≡ Listed (get_or members i 0) (within old.cpus (drop (i + 1) members)) = at_drop_more (λ (xs : List ℕ). listed (within old.cpus xs)) members i 0 lt ∙ ap listed (within_one old.cpus (get_or members i 0) (drop (i + 1) members) below) in
    rw e at (t.order order s)

pub listed_passes : (members : List ℕ) (old now new : MachineView) (i : ℕ) → i < length members → ListedRun members old now i → get_or members i 0 < old.cpus → new ≡ now → PassesOver now (get_or members i 0) → ListedRun members old new (i + 1)
listed_passes members old now new i lt t below same over = rw same (record {
  goes = t.goes;
  order = λ order s. stands_passed now.image now.cpus now.budget order now.log.cycles (Listed (get_or members i 0) (within old.cpus (drop (i + 1) members))) (at_member members old now i lt t below order s) over;
})

pub listed_makes : (members : List ℕ) (old now new : MachineView) (i : ℕ) → i < length members → ListedRun members old now i → get_or members i 0 < old.cpus → MakesCycle (get_or members i 0) now new → IsMachine new → (PassesOver now (get_or members i 0) → ⊥) → ListedRun members old new (i + 1)
listed_makes members old now new i lt t below makes k lives = record {
  goes = goes_then old now new t.goes (goes_cycle (get_or members i 0) now new makes k);
  order = λ order s. stands_made order (get_or members i 0) now new (Listed (get_or members i 0) (within old.cpus (drop (i + 1) members))) makes (at_member members old now i lt t below order s) lives refl;
}

-- either way
pub listed_next : (members : List ℕ) (old now new : MachineView) (i : ℕ) (t : Turn) → i < length members → ListedRun members old now i → get_or members i 0 < old.cpus → (t ≡ turns.PassedOver → (new ≡ now) × PassesOver now (get_or members i 0)) → (t ≡ turns.Made → MakesCycle (get_or members i 0) now new × IsMachine new × (PassesOver now (get_or members i 0) → ⊥)) → ListedRun members old new (i + 1)
listed_next members old now new i turns.PassedOver lt l below passed made = listed_passes members old now new i lt l below (passed refl).0 (passed refl).1
listed_next members old now new i turns.Made lt l below passed made = listed_makes members old now new i lt l below (made refl).0 (made refl).1 (made refl).2

pub listed_all : (members : List ℕ) (old now : MachineView) (i : ℕ) → length members ≤ i → ListedRun members old now i → (order : Order) → OrderAt order old (listed (within old.cpus members)) → OrderAt order now (Turns 0)
listed_all members old now i le t order s =
    let e : listed (within old.cpus (drop i members)) ≡ Turns 0 = ap (λ (xs : List ℕ). listed (within old.cpus xs)) (drop_all i members le) in
    rw e at (t.order order s)

-- ---- the end

-- a front of a run in which all have finished is a run
pub over_is_run : (m : MachineView) → IsMachine m → IsOver m → Run m.image m.cpus m.budget m.log.cycles m.ends
over_is_run m k over = record {
  below = k.front.below;
  first = m.log.first;
  begins = k.front.begins;
  history = k.front.history;
  count = k.front.count;
  walks = λ p e is. go p e (over p (omega (arith, k.front.count, slice_get_within m.ends p e is))) (k.front.places p e is);
}
  where
    go : (p : ℕ) (e : ProcEnd Proc) → HasFinished m.image m.budget m.log.cycles p → IsPlaced m.image m.budget m.log.cycles p e → Runs (plan_of m.image p) m.budget (start_of m.image p) (cycles_of p m.log.cycles) e.after e.steps
    go p e f (inl r) = r
    go p e f (inr w) = absurd (awaits_not_finished m.image m.budget m.log.cycles p w.0 (e, w.1) f)

-- a run that may be ended in any way
pub run_on : {F : Type 0} (r : Result (Unit {0}) F) (m : MachineView) → IsMachine m → OnOk r (IsOver m) → OnOk r (Run m.image m.cpus m.budget m.log.cycles m.ends)
run_on (Ok u) m k over = over_is_run m k over
run_on (Err e) m k over = tt

-- an order that stands somewhere after a history
pub begins_order : (order : Order) (m : MachineView) → m.log.cycles ≡ [] → OrderAt order m (beginning m.cpus order)
begins_order order m none = stands_first m.image m.cpus m.budget order m.log.cycles none
