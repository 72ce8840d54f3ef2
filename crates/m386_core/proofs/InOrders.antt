-- What is in an order, and what isn't.
use Rattle.std.proofs.Common.{◌≡◌, ◌↔◌, ℕ, zero, suc, ◌+◌, ◌%◌, ◌<◌, inl, inr, List, [], ◌∷◌, ◌++◌, length, refl, sym, ap, ◌∙◌, arith}
use Rattle.std.proofs.lemmas.Bool.{lt-ltb}
use Rattle.std.proofs.lemmas.List.{length_push}
use Rattle.std.proofs.lemmas.Option.{same_Some}
use Rattle.std.proofs.Math.Nat.{mod-lt, zero-mod}
use Rattle.m386_base.specs.declared.ask.Cycle.{Cycle}
use Rattle.m386_image.specs.declared.image.Image.{Image}
use Rattle.m386_memory.specs.History.{past, last_cpu}
use Rattle.m386_memory.proofs.Histories.{last_cpu-push}
use Rattle.m386_core.specs.declared.order.Order.{Order}
use Rattle.m386_core.specs.declared.order.Order.TheVariants.{Round, Seed}
use Rattle.m386_core.specs.declared.order.Order.TheVariants as orders
use Rattle.m386_core.specs.Order.{Naming, Turns, beginning, draw_of, named, passed, followed, NamesTo, InOrder}
use Rattle.m386_core.specs.Place.{IsPassedOver}
use Rattle.m386_core.proofs.Orders.{stands_first, stands_followed}

-- before the first cycle each order stands at its begin
pub empty_in_order : (I : Image) (c n : ℕ) (order : Order) → InOrder I c n order []
empty_in_order I c n order = (beginning c order, stands_first I c n order [] refl)

-- the last cycle of a history is one
same_last : (G H : List Cycle) (x y : Cycle) → G ++ x ∷ [] ≡ H ++ y ∷ [] → x.cpu ≡ y.cpu
same_last G H x y e = same_Some _ _ (sym (last_cpu-push G x) ∙ ap (λ (L : List Cycle). last_cpu (past L)) e ∙ last_cpu-push H y)

-- ---- in turn

-- processors in turn are always named in turn
in_turn : (I : Image) (c n k : ℕ) (H : List Cycle) (s : Naming) → NamesTo I c n Round k H s → (m : ℕ) × (s ≡ Turns m)
unfolding NamesTo
in_turn I c n zero H s h = (0, h.1)
in_turn I c n (suc k) H s (before, inl (over, is, h)) = let m = in_turn I c n k H before h in (m.0 + 1, is ∙ ap passed m.1)
in_turn I c n (suc k) H s (before, inr (G, x, e, lives, by, is, h)) = let m = in_turn I c n k G before h in (m.0 + 1, is ∙ ap followed m.1)

below : (I : Image) (c n k : ℕ) (G : List Cycle) (x : Cycle) (s : Naming) → 0 < c → NamesTo I c n Round k (G ++ x ∷ []) s → x.cpu < c
unfolding NamesTo
below I c n zero G x s some h =
    let l : length (G ++ x ∷ []) ≡ 0 = ap length h.0 in
    let p : length (G ++ x ∷ []) ≡ length G + 1 = length_push G x in
    absurd (omega arith)
below I c n (suc k) G x s some (before, inl (over, is, h)) = below I c n k G x before some h
below I c n (suc k) G x s some (before, inr (H, y, e, lives, by, is, h)) =
    let m = in_turn I c n k H before h in
    let is_named : x.cpu ≡ m.0 % c = same_last G H x y e ∙ by ∙ ap (named c) m.1 in
    rw is_named (mod-lt m.0 some)

-- in turn no other processors are named
pub turns_stay_below : (I : Image) (c n : ℕ) (G : List Cycle) (x : Cycle) → 0 < c → InOrder I c n Round (G ++ x ∷ []) → x.cpu < c
turns_stay_below I c n G x some (s, (k, h)) = below I c n k G x s some h

-- ---- the first cycle

-- no other is named while the processor that is named first may go on
waits : (I : Image) (c n k : ℕ) (order : Order) (H : List Cycle) (s : Naming) → H ≡ [] → (IsPassedOver I c n [] (named c (beginning c order)) → ⊥) → NamesTo I c n order k H s → s ≡ beginning c order
unfolding NamesTo
waits I c n zero order H s none lives h = h.1
waits I c n (suc k) order H s none lives (before, inl (over, is, h)) =
    let b : before ≡ beginning c order = waits I c n k order H before none lives h in
    absurd (lives (rw (none, b) at over))
waits I c n (suc k) order H s none lives (before, inr (G, x, e, alive, by, is, h)) =
    let p : 0 ≡ length G + 1 = ap length (sym none ∙ e) ∙ length_push G x in
    absurd (omega (arith, p))

-- a history of one cycle has none before it
alone : (G : List Cycle) (x y : Cycle) → x ∷ [] ≡ G ++ y ∷ [] → G ≡ []
alone [] x y e = refl
alone (z ∷ G) x y e =
    let p : 1 ≡ suc (length (G ++ y ∷ [])) = ap length e in
    absurd (omega (arith, p, length_push G y))

first_by : (I : Image) (c n k : ℕ) (order : Order) (x : Cycle) (s : Naming) → (IsPassedOver I c n [] (named c (beginning c order)) → ⊥) → NamesTo I c n order k (x ∷ []) s → x.cpu ≡ named c (beginning c order)
unfolding NamesTo
first_by I c n zero order x s lives h =
    let l : 1 ≡ 0 = ap length h.0 in
    absurd (omega (arith, l))
first_by I c n (suc k) order x s lives (before, inl (over, is, h)) = first_by I c n k order x before lives h
first_by I c n (suc k) order x s lives (before, inr (G, y, e, alive, by, is, h)) =
    let b : before ≡ beginning c order = waits I c n k order G before (alone G x y e) lives h in
    same_last [] G x y e ∙ by ∙ ap (named c) b

-- the first cycle is by the processor that is named first, where that one may go on, and by no other
first_cycle : (I : Image) (c n p : ℕ) (order : Order) (x : Cycle) → named c (beginning c order) ≡ p → (IsPassedOver I c n [] p → ⊥) → InOrder I c n order (x ∷ []) ↔ (x.cpu ≡ p)
first_cycle I c n p order x is lives =
    let alive : IsPassedOver I c n [] (named c (beginning c order)) → ⊥ = rw is lives in
    (λ h. first_by I c n h.1.0 order x h.0 alive h.1.1 ∙ is, λ by. (followed (beginning c order), stands_followed I c n order [] x (beginning c order) (stands_first I c n order [] refl) alive (by ∙ sym is)))

pub turns_begin : (I : Image) (c n : ℕ) (x : Cycle) → (IsPassedOver I c n [] 0 → ⊥) → InOrder I c n Round (x ∷ []) ↔ (x.cpu ≡ 0)
turns_begin I c n x lives = first_cycle I c n 0 Round x (zero-mod c) lives

pub list_begins : (I : Image) (c n p : ℕ) (ps : List ℕ) (x : Cycle) → p < c → (IsPassedOver I c n [] p → ⊥) → InOrder I c n (orders.List (p ∷ ps)) (x ∷ []) ↔ (x.cpu ≡ p)
list_begins I c n p ps x inside lives =
    let is : named c (beginning c (orders.List (p ∷ ps))) ≡ p = rw (lt-ltb p c inside) refl in
    first_cycle I c n p (orders.List (p ∷ ps)) x is lives

pub seed_begins : (I : Image) (n : ℕ) (x : Cycle) → (IsPassedOver I 8 n [] 7 → ⊥) → InOrder I 8 n (Seed 0) (x ∷ []) ↔ (x.cpu ≡ 7)
unfolding draw_of
seed_begins I n x lives = first_cycle I 8 n 7 (Seed 0) x refl lives
