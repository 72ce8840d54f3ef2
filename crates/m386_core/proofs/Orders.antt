-- How an order goes on.
use Rattle.std.proofs.Common.{◌≡◌, ◌≢◌, ℕ, suc, ◌+◌, ◌*◌, ◌/◌, ◌%◌, ◌^◌, ◌<◌, ◌≤◌, List, [], ◌∷◌, ◌++◌, refl, sym, ap, ◌∙◌, arith, inl, inr, ◌⊎◌, append_assoc}
use Rattle.std.proofs.Math.Nat.{mod-eq_of_lt, mod_self, mod-add-div', add-mul-mod_self_right}
use Rattle.std.proofs.lemmas.Bool.{cases_lt, lt-ltb, le-ltb}
use Rattle.std.proofs.lemmas.List.{append-nil}
use Rattle.m386_base.specs.declared.ask.Cycle.{Cycle}
use Rattle.m386_base.specs.Bus.{cycle_of}
use Rattle.m386_image.specs.declared.image.Image.{Image}
use Rattle.m386_core.specs.declared.order.Order.{Order}
use Rattle.m386_core.specs.Machine.{MachineView, IsMachine, SameMachine, PassesOver, MakesCycle, GoesOn}
use Rattle.m386_core.specs.Order.{Naming, Turns, Drawn, beginning, named, passed, followed, NamesTo, StandsAt}
use Rattle.m386_core.specs.Running.{OrderAt, Rises, gap}
use Rattle.m386_core.specs.Place.{IsPassedOver}

pub stands_first : (I : Image) (c n : ℕ) (order : Order) (H : List Cycle) → H ≡ [] → StandsAt I c n order H (beginning c order)
unfolding NamesTo
stands_first I c n order H none = (0, (none, refl))

pub stands_passed : (I : Image) (c n : ℕ) (order : Order) (H : List Cycle) (s : Naming) → StandsAt I c n order H s → IsPassedOver I c n H (named c s) → StandsAt I c n order H (passed s)
unfolding NamesTo
stands_passed I c n order H s h over = (suc h.0, (s, inl (over, refl, h.1)))

pub stands_followed : (I : Image) (c n : ℕ) (order : Order) (G : List Cycle) (x : Cycle) (s : Naming) → StandsAt I c n order G s → (IsPassedOver I c n G (named c s) → ⊥) → x.cpu ≡ named c s → StandsAt I c n order (G ++ x ∷ []) (followed s)
unfolding NamesTo
stands_followed I c n order G x s h lives by = (suc h.0, (s, inr (G, x, refl, lives, by, refl, h.1)))

-- ---- the order of a machine's history

pub stands_made : (order : Order) (cpu : ℕ) (old new : MachineView) (s : Naming) → MakesCycle cpu old new → OrderAt order old s → (PassesOver old cpu → ⊥) → cpu ≡ named old.cpus s → OrderAt order new (followed s)
stands_made order cpu old new s m h lives by =
    let x : Cycle = record { cpu = cpu; ask = cycle_of m.asked m.value } in
    let alive : IsPassedOver old.image old.cpus old.budget old.log.cycles (named old.cpus s) → ⊥ = rw by at lives in
    rw (m.same.image, m.same.cpus, m.same.budget, m.cycles) (stands_followed old.image old.cpus old.budget order old.log.cycles x s h alive by)

-- ---- in turn

-- the next number, modulo the count
mod_more : (a c m : ℕ) → m ≡ a % c → (a + 1) % c ≡ (m + 1) % c
mod_more a c m e =
    let d : a % c + a / c * c ≡ a = mod-add-div' a c in
    let s : a + 1 ≡ (m + 1) + a / c * c = omega arith in
    ap (λ (x : ℕ). x % c) s ∙ add-mul-mod_self_right (m + 1) (a / c) c

pub turn_inside : (a c m : ℕ) → m ≡ a % c → m + 1 < c → m + 1 ≡ (a + 1) % c
turn_inside a c m e lt = sym (mod_more a c m e ∙ mod-eq_of_lt lt)

pub turn_wraps : (a c m : ℕ) → m ≡ a % c → m + 1 ≡ c → 0 ≡ (a + 1) % c
turn_wraps a c m e last = sym (mod_more a c m e ∙ ap (λ (x : ℕ). x % c) last ∙ mod_self c)

pub gap_inside : (c m due : ℕ) → m < c → due < c → due ≢ m → gap c (m + 1) due < gap c m due
gap_inside c m due l d other = go (cases_lt due m)
  where
    go : (due < m) ⊎ (m ≤ due) → gap c (m + 1) due < gap c m due
    go (inl lt) = rw (lt-ltb due (m + 1) (omega arith), lt-ltb due m lt) (omega arith)
    go (inr le) = rw (le-ltb due (m + 1) (omega arith), le-ltb due m le) (omega arith)

pub gap_wraps : (c m due : ℕ) → m + 1 ≡ c → due < c → due ≢ m → gap c 0 due < gap c m due
gap_wraps c m due last d other = rw (le-ltb due 0 (omega arith), lt-ltb due m (omega arith)) (omega arith)

pub turns_rise : (c n : ℕ) → Rises c n (λ i. Turns (n + i))
turns_rise c n = record { step = λ i. ap Turns (omega arith); names = λ i. refl }

pub drawn_rise : (c x : ℕ) → Rises c (x / 2 ^ 33) (λ i. Drawn x i)
drawn_rise c x = record { step = λ i. refl; names = λ i. refl }

-- ---- more cycles

same_itself : (m : MachineView) → SameMachine m m
same_itself m = record { image = refl; cpus = refl; budget = refl; first = refl }

pub same_then : (a b c : MachineView) → SameMachine a b → SameMachine b c → SameMachine a c
same_then a b c p q = record { image = q.image ∙ p.image; cpus = q.cpus ∙ p.cpus; budget = q.budget ∙ p.budget; first = q.first ∙ p.first }

pub goes_nowhere : (m : MachineView) → IsMachine m → GoesOn m m
goes_nowhere m k = record { same = same_itself m; more = []; cycles = sym (append-nil m.log.cycles); kept = k }

pub goes_then : (a b c : MachineView) → GoesOn a b → GoesOn b c → GoesOn a c
goes_then a b c p q = record {
  same = same_then a b c p.same q.same;
  more = p.more ++ q.more;
  cycles = q.cycles ∙ ap (λ (x : List Cycle). x ++ q.more) p.cycles ∙ append_assoc a.log.cycles p.more q.more;
  kept = q.kept;
}

pub goes_cycle : (cpu : ℕ) (a b : MachineView) → MakesCycle cpu a b → IsMachine b → GoesOn a b
goes_cycle cpu a b m k = record { same = m.same; more = record { cpu = cpu; ask = cycle_of m.asked m.value } ∷ []; cycles = m.cycles; kept = k }
