-- A turn of an order: processors are passed over, and then one makes a cycle.
use Rattle.std.proofs.Common.{◌≡◌, ℕ, ◌+◌, ◌%◌, ◌<◌, refl, sym, ap, subst, ◌∙◌, add-zero, add_assoc, Result, Ok, Err}
use Rattle.std.specs.Result.{IsErr, MatchResult}
use Rattle.m386_turns.specs.declared.turns.Turn.{Turn}
use Rattle.m386_turns.specs.declared.turns.Turn.TheVariants as turns
use Rattle.m386_core.specs.declared.order.Order.{Order}
use Rattle.m386_core.specs.Machine.{MachineView, PassesOver, MakesCycle}
use Rattle.m386_core.specs.Order.{Naming, named, passed, followed}
use Rattle.m386_core.specs.Place.{IsPassedOver}
use Rattle.m386_core.specs.Running.{OrderAt, Rises}
use Rattle.m386_core.proofs.Orders.{stands_passed, stands_made}

-- how far the naming has come without a cycle
pub record TurnSoFar (first : ℕ) (old now : MachineView) (number : ℕ) : Type 0 where
  pub unchanged : now ≡ old
  pub below : number < old.cpus
  pub order : (order : Order) (a : ℕ) (f : ℕ → Naming) → first ≡ a % old.cpus → Rises old.cpus a f → OrderAt order old (f 0) → (i : ℕ) × (number ≡ (a + i) % old.cpus) × OrderAt order old (f i)

-- one more is passed over
pub turn_passes : (first : ℕ) (old now new : MachineView) (number next : ℕ) → TurnSoFar first old now number → new ≡ now → PassesOver now number → next < now.cpus → ((a : ℕ) → number ≡ a % now.cpus → next ≡ (a + 1) % now.cpus) → TurnSoFar first old new next
turn_passes first old now new number next t same over lt follows =
    let over_old : PassesOver old number = subst (λ (m : MachineView). PassesOver m number) t.unchanged over in
    let follows_old : (a : ℕ) → number ≡ a % old.cpus → next ≡ (a + 1) % old.cpus = subst (λ (m : MachineView). (a : ℕ) → number ≡ a % m.cpus → next ≡ (a + 1) % m.cpus) t.unchanged follows in
    record {
      unchanged = same ∙ t.unchanged;
      below = subst (λ (m : MachineView). next < m.cpus) t.unchanged lt;
      order = λ order a f e r s. (
          let so = t.order order a f e r s in
          let named_is : named old.cpus (f so.0) ≡ number = r.names so.0 ∙ sym so.1 in
          let over_named : IsPassedOver old.image old.cpus old.budget old.log.cycles (named old.cpus (f so.0)) = rw named_is over_old in
          let on : OrderAt order old (passed (f so.0)) = stands_passed old.image old.cpus old.budget order old.log.cycles (f so.0) so.2 over_named in
          (so.0 + 1, follows_old (a + so.0) so.1 ∙ ap (λ (x : ℕ). x % old.cpus) (add_assoc a so.0 1), rw r.step at on));
    }

-- one makes a cycle
pub turn_makes : (first : ℕ) (old now new : MachineView) (number : ℕ) → TurnSoFar first old now number → MakesCycle number now new → (PassesOver now number → ⊥) → (order : Order) (a : ℕ) (f : ℕ → Naming) → first ≡ a % old.cpus → Rises old.cpus a f → OrderAt order old (f 0) → (i : ℕ) × (number ≡ (a + i) % old.cpus) × OrderAt order new (followed (f i))
turn_makes first old now new number t makes lives order a f e r s =
    let so = t.order order a f e r s in
    let named_is : number ≡ named old.cpus (f so.0) = so.1 ∙ sym (r.names so.0) in
    let makes_old : MakesCycle number old new = subst (λ (m : MachineView). MakesCycle number m new) t.unchanged makes in
    let lives_old : PassesOver old number → ⊥ = subst (λ (m : MachineView). PassesOver m number → ⊥) t.unchanged lives in
    (so.0, so.1, stands_made order number old new (f so.0) makes_old so.2 lives_old named_is)

-- what a turn that failed says
pub match_err : {T F : Type 0} (r : Result T F) (P : T → Type 0) (Q : F → Type 0) → IsErr r → ((e : F) → Q e) → MatchResult r P Q
match_err (Ok x) P Q h q = cc
match_err (Err e) P Q h q = q e

pub turn_fails : (first : ℕ) (old now new : MachineView) (number : ℕ) → TurnSoFar first old now number → new ≡ now → (order : Order) (a : ℕ) (f : ℕ → Naming) → first ≡ a % old.cpus → Rises old.cpus a f → OrderAt order old (f 0) → (i : ℕ) × OrderAt order new (f i)
turn_fails first old now new number t same order a f e r s =
    let so = t.order order a f e r s in
    (so.0, subst (λ (m : MachineView). OrderAt order m (f so.0)) (sym (same ∙ t.unchanged)) so.2)

pub made_differs : {F : Type 0} (t : Turn) → t ≡ turns.PassedOver → ◌≡◌ {A = Result Turn F} (Ok t) (Ok turns.Made) → ⊥
made_differs t e h = cc

pub err_differs : {T F : Type 0} {t : T} {e : F} → ◌≡◌ {A = Result T F} (Err e) (Ok t) → ⊥
err_differs h = cc
