-- A locked group, cycle by cycle.
use Rattle.std.proofs.Common.{◌≡◌, ◌≢◌, ℕ, ◌+◌, ◌*◌, ◌-◌, ◌<◌, ◌≤◌, true, List, [], ◌∷◌, ◌++◌, length, refl, sym, ap, ◌∙◌, append_assoc, arith, inl, inr, Result, Ok}
use Rattle.std.specs.List.{AllByRecursion}
use Rattle.std.proofs.lemmas.Bool.{cases_eq}
use Rattle.std.proofs.lemmas.List.{length-append}
use Rattle.m386_base.specs.declared.ask.Ask.{Ask}
use Rattle.m386_base.specs.declared.ask.Cycle.{Cycle}
use Rattle.m386_base.specs.Bus.{cycle_of}
use Rattle.m386_image.specs.declared.image.Image.{Image}
use Rattle.m386_memory.specs.History.{cycles_of}
use Rattle.m386_memory.proofs.Histories.{cycles_of-other, same-answered}
use Rattle.m386_step.specs.Run.{start_of, plan_of}
use Rattle.m386_turns.specs.declared.turns.Turn.{Turn}
use Rattle.m386_turns.specs.declared.turns.Turn.TheVariants as turns
use Rattle.m386_core.specs.Machine.{MachineView, IsMachine, SameMachine, PassesOver, HasAmidGroup, MakesCycle, MakesGroup}
use Rattle.m386_core.specs.Place.{Awaits, HasFinished}
use Rattle.m386_core.proofs.Lengths.{front_length}
use Rattle.m386_core.proofs.Places.{amid_not_finished, amid_same}

-- ---- what a processor asks for, by its own cycles alone

pub awaits_same : (I : Image) (n : ℕ) (H : List Cycle) (p : ℕ) (a b : Ask) → Awaits I n H p a → Awaits I n H p b → a ≡ b
awaits_same I n H p a b x y = amid_same x.0.steps y.0.steps (plan_of I p) 0 (start_of I p) x.0.after y.0.after (cycles_of p H) a b x.1.amid y.1.amid

pub awaits_not_finished : (I : Image) (n : ℕ) (H : List Cycle) (p : ℕ) (a : Ask) → Awaits I n H p a → HasFinished I n H p → ⊥
awaits_not_finished I n H p a x f = amid_not_finished x.0.steps n (plan_of I p) (start_of I p) x.0.after (cycles_of p H) a f.0 x.1.fewer x.1.amid f.1

-- another's cycle leaves it
pub awaits_other : (I : Image) (n : ℕ) (H : List Cycle) (p : ℕ) (a : Ask) (x : Cycle) → x.cpu ≢ p → Awaits I n (H ++ x ∷ []) p a → Awaits I n H p a
awaits_other I n H p a x other w = (w.0, record { fewer = w.1.fewer; amid = rw (cycles_of-other p H x other) at w.1.amid })

-- ---- one more cycle

-- a machine that has made a cycle had room for it in its steps
pub room_shrinks : (cpu : ℕ) (old new : MachineView) → IsMachine new → MakesCycle cpu old new → 192 * new.budget * new.cpus - length new.log.cycles < 192 * old.budget * old.cpus - length old.log.cycles
room_shrinks cpu old new m s =
    let l : length new.log.cycles ≤ 192 * new.budget * new.cpus = front_length new.image new.cpus new.budget new.log.first new.log.cycles new.ends m.front in
    let more : length new.log.cycles ≡ length old.log.cycles + 1 = ap length s.cycles ∙ length-append old.log.cycles (record { cpu = cpu; ask = cycle_of s.asked s.value } ∷ []) in
    let b : 192 * new.budget * new.cpus ≡ 192 * old.budget * old.cpus = rw (s.same.budget, s.same.cpus) refl in
    omega arith

-- a locked group as far as it has been made
pub record GroupSoFar (cpu : ℕ) (old now : MachineView) : Type 0 where
  pub made : MakesGroup cpu old now
  pub kept : IsMachine now
  pub alone : (q : ℕ) → HasAmidGroup now q → q ≡ cpu

-- a processor that has just made a cycle is the only one that may be amid a locked group
alone_after : (cpu : ℕ) (old now : MachineView) → MakesCycle cpu old now → ((q : ℕ) → q ≢ cpu → HasAmidGroup old q → ⊥) → (q : ℕ) → HasAmidGroup now q → q ≡ cpu
alone_after cpu old now s none q h = elim (cases_eq q cpu) [
  | inl e ↦ e
  | inr other ↦
      let x : Cycle = record { cpu = cpu; ask = cycle_of s.asked s.value } in
      let a = h.1.0 in
      let grown : Awaits old.image old.budget (old.log.cycles ++ x ∷ []) q a = rw (s.same.image, s.same.budget, s.cycles) at h.1.1 in
      let before : Awaits old.image old.budget old.log.cycles q a = awaits_other old.image old.budget old.log.cycles q a x (λ e. other (sym e)) grown in
      let below : q < old.cpus = rw s.same.cpus at h.0 in
      absurd (none q other (below, (a, before, h.1.2)))
]

pub group_one : (cpu : ℕ) (old now : MachineView) → (PassesOver old cpu → ⊥) → MakesCycle cpu old now → IsMachine now → GroupSoFar cpu old now
group_one cpu old now not_passed s m = record {
  made = record { same = s.same; first = record { cpu = cpu; ask = cycle_of s.asked s.value }; others = []; by = refl; joined = tt; cycles = s.cycles };
  kept = m;
  alone = alone_after cpu old now s (λ q other h. not_passed (inr (q, other, h)));
}

joined_more : (cpu : ℕ) (others : List Cycle) (x : Cycle) → AllByRecursion (λ (y : Cycle). (y.cpu ≡ cpu) × (y.ask.joined ≡ true)) others → x.cpu ≡ cpu → x.ask.joined ≡ true → AllByRecursion (λ (y : Cycle). (y.cpu ≡ cpu) × (y.ask.joined ≡ true)) (others ++ x ∷ [])
joined_more cpu [] x h by j = ((by, j), tt)
joined_more cpu (y ∷ others) x h by j = (h.0, joined_more cpu others x h.1 by j)

same_then : (a b c : MachineView) → SameMachine a b → SameMachine b c → SameMachine a c
same_then a b c p q = record { image = q.image ∙ p.image; cpus = q.cpus ∙ p.cpus; budget = q.budget ∙ p.budget; first = q.first ∙ p.first }

pub group_more : (cpu : ℕ) (old now new : MachineView) → GroupSoFar cpu old now → HasAmidGroup now cpu → MakesCycle cpu now new → IsMachine new → GroupSoFar cpu old new
group_more cpu old now new g amid s m =
    let x : Cycle = record { cpu = cpu; ask = cycle_of s.asked s.value } in
    let same_ask : amid.1.0 ≡ s.asked = awaits_same now.image now.budget now.log.cycles cpu amid.1.0 s.asked amid.1.1 s.awaited in
    let joined : x.ask.joined ≡ true = (same-answered s.asked s.value).1 ∙ ap (λ (a : Ask). a.joined) (sym same_ask) ∙ amid.1.2 in
    record {
      made = record {
        same = same_then old now new g.made.same s.same;
        first = g.made.first;
        others = g.made.others ++ x ∷ [];
        by = g.made.by;
        joined = joined_more cpu g.made.others x g.made.joined refl joined;
        cycles = s.cycles ∙ ap (λ (c : List Cycle). c ++ x ∷ []) g.made.cycles ∙ append_assoc old.log.cycles (g.made.first ∷ g.made.others) (x ∷ []);
      };
      kept = m;
      alone = alone_after cpu now new s (λ q other h. other (g.alone q h));
    }

-- amid its locked group a processor isn't passed over
pub amid_not_passed : (cpu : ℕ) (old now : MachineView) → GroupSoFar cpu old now → HasAmidGroup now cpu → PassesOver now cpu → ⊥
amid_not_passed cpu old now g amid (inl f) = awaits_not_finished now.image now.budget now.log.cycles cpu amid.1.0 amid.1.1 f
amid_not_passed cpu old now g amid (inr h) = h.1 (g.alone h.0 h.2)

-- a turn that passed nobody over made a cycle
pub turn_made : (t : Turn) → t ≢ turns.PassedOver → t ≡ turns.Made
turn_made turns.Made other = refl
turn_made turns.PassedOver other = absurd (other refl)

pub made_not_passed : {F : Type 0} → ◌≡◌ {A = Result Turn F} (Ok turns.Made) (Ok turns.PassedOver) → ⊥
made_not_passed e = cc
