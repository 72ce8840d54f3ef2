-- What the parts of a machine say of its processors, and what one more cycle makes of them.
use Rattle.std.proofs.Common.{◌≡◌, ◌≢◌, ℕ, zero, suc, ◌<◌, true, false, List, [], ◌∷◌, length, get_or, refl, sym, ap, subst, ◌∙◌, arith, inl, inr, Option, Some, None, Result, Ok, Err}
use Rattle.std.specs.Option.{is_some}
use Rattle.std.specs.Result.{IsErr}
use Rattle.std.specs.List.{slice_get}
use Rattle.std.proofs.lemmas.List.{get_or_default}
use Rattle.std.proofs.lemmas.Option.{slice_get_within, get_or_from_slice_get}
use Rattle.m386_base.specs.declared.ask.Ask.{Ask}
use Rattle.m386_base.specs.declared.ask.Cycle.{Cycle}
use Rattle.m386_base.specs.Bus.{IsAsk}
use Rattle.m386_image.specs.declared.image.Image.{Image}
use Rattle.m386_memory.specs.Contents.{Contents}
use Rattle.m386_memory.specs.History.{cycles_of, past, last_cpu}
use Rattle.m386_memory.specs.declared.ended.ProcEnd.{ProcEnd}
use Rattle.m386_state.specs.declared.proc.Proc.{Proc}
use Rattle.m386_step.specs.Run.{start_of, plan_of}
use Rattle.m386_step.specs.Steps.{Plan}
use Rattle.m386_core.specs.declared.unfinished.Unfinished.{Unfinished}
use Rattle.m386_core.specs.Kept.{IsKept, is_another}
use Rattle.m386_core.specs.Machine.{IsPlaced, IsMachine}
use Rattle.m386_core.specs.Place.{HasFinishedAs, WaitsAs, HasFinished, IsAmidGroup, IsPassedOver}
use Rattle.m386_core.specs.Plans.{entries_left}
use Rattle.m386_core.specs.Unfinished.{Waits, EndsOrWaits, is_joined}
use Rattle.m386_core.proofs.Places.{amid_behind, amid_not_finished, amid_same}

-- ---- one processor

-- a processor that waits, by the definition
pub waits_as : (I : Image) (n : ℕ) (H : List Cycle) (p : ℕ) (e : ProcEnd Proc) (t : Unfinished) (left : Plan) (a : Ask) → (w : Waits n (plan_of I p) (start_of I p) (cycles_of p H) e t left a) → WaitsAs I n H p e w.wanted
waits_as I n H p e t left a w = record {
  fewer = w.fewer;
  amid = rw w.cycles (amid_behind (plan_of I p) e.steps (start_of I p) e.after w.whole w.front left w.wanted w.steps w.lives w.wants);
}

placed : (I : Image) (n : ℕ) (H : List Cycle) (p : ℕ) (e : ProcEnd Proc) (t : Unfinished) (left : Plan) (next : Option Ask) → EndsOrWaits n (plan_of I p) (start_of I p) (cycles_of p H) e t left next → IsPlaced I n H p e
placed I n H p e t left None h = inl h
placed I n H p e t left (Some a) h = inr (h.wanted, waits_as I n H p e t left a h)

-- ---- all of them

-- the item at a place of a list
pub item : {X : Type 0} (xs : List X) (i : ℕ) → i < length xs → (x : X) × (get_or xs i x ≡ x)
item [] i lt = absurd (omega arith)
item (x ∷ xs) zero lt = (x, refl)
item (x ∷ xs) (suc i) lt = item xs i (omega arith)

pub none_of : {X : Type 0} (o : Option X) → is_some o ≡ false → o ≡ None
none_of None h = refl
none_of (Some x) h = cc

pub some_same : (p q : ℕ) → ◌≡◌ {A = Option ℕ} (Some p) (Some q) → p ≡ q
some_same p q e = cc

pub err_is_not_ok : {T F : Type 0} (r : Result T F) (t : T) → IsErr r → r ≡ Ok t → ⊥
err_is_not_ok (Ok x) t h e = cc
err_is_not_ok (Err x) t h e = cc

-- an item that was read twice
read_twice : {X : Type 0} (xs : List X) (i : ℕ) (x y : X) → i < length xs → x ≡ get_or xs i x → y ≡ get_or xs i y → x ≡ y
read_twice xs i x y lt a b = a ∙ get_or_default xs i x y lt ∙ sym b

-- the state and the unfinished step of a processor
pub record HasParts (I : Image) (n : ℕ) (H : List Cycle) (E : List (ProcEnd Proc)) (unfinished : List Unfinished) (p : ℕ) : Type 0 where
  pub state : ProcEnd Proc
  pub step : Unfinished
  pub state_is : get_or E p state ≡ state
  pub step_is : get_or unfinished p step ≡ step
  pub each : EndsOrWaits n (plan_of I p) (start_of I p) (cycles_of p H) state step (entries_left p step.plan) step.next

module _ (I : Image) (c n : ℕ) (first : Contents) (H : List Cycle) (E : List (ProcEnd Proc)) (unfinished : List Unfinished) (midgroup : Option ℕ) (k : IsKept I c n first H E unfinished midgroup) where
  each_at : (p : ℕ) (e : ProcEnd Proc) (t : Unfinished) → p < c → get_or E p e ≡ e → get_or unfinished p t ≡ t → EndsOrWaits n (plan_of I p) (start_of I p) (cycles_of p H) e t (entries_left p t.plan) t.next
  each_at p e t lt ee tt-is =
      let P : ProcEnd Proc → Unfinished → Type 0 = λ x y. EndsOrWaits n (plan_of I p) (start_of I p) (cycles_of p H) x y (entries_left p y.plan) y.next in
      subst (λ (y : Unfinished). P e y) tt-is (subst (λ (x : ProcEnd Proc). P x (get_or unfinished p t)) ee (k.each p e t lt))

  pub parts_of : (p : ℕ) → p < c → HasParts I n H E unfinished p
  parts_of p lt =
      let e = item E p (omega (arith, k.count)) in
      let t = item unfinished p (omega (arith, k.count_unfinished)) in
      record { state = e.0; step = t.0; state_is = e.1; step_is = t.1; each = each_at p e.0 t.0 lt e.1 t.1 }

  pub placed_at : (p : ℕ) (e : ProcEnd Proc) → slice_get E p ≡ Some e → IsPlaced I n H p e
  placed_at p e is =
      let lt : p < c = omega (arith, k.count, slice_get_within E p e is) in
      let t = item unfinished p (omega (arith, k.count_unfinished)) in
      placed I n H p e t.0 (entries_left p t.0.plan) t.0.next (each_at p e t.0 lt (get_or_from_slice_get E p e e is) t.1)

  pub kept_machine : IsMachine (record { image = I; cpus = c; budget = n; log = record { first = first; cycles = H }; ends = E })
  kept_machine = record {
    valid = k.valid;
    some = k.some;
    most = k.most;
    budget = k.budget;
    front = record { below = k.below; begins = k.begins; history = k.history; count = k.count; places = placed_at };
  }

  -- ---- which processors are passed over

  pub waits_at : (p : ℕ) (e : ProcEnd Proc) (t : Unfinished) (a : Ask) → p < c → get_or E p e ≡ e → get_or unfinished p t ≡ t → t.next ≡ Some a → Waits n (plan_of I p) (start_of I p) (cycles_of p H) e t (entries_left p t.plan) a
  waits_at p e t a lt e-is t-is next =
      let h : EndsOrWaits n (plan_of I p) (start_of I p) (cycles_of p H) e t (entries_left p t.plan) t.next = each_at p e t lt e-is t-is in
      subst (λ (o : Option Ask). EndsOrWaits n (plan_of I p) (start_of I p) (cycles_of p H) e t (entries_left p t.plan) o) next h

  -- the same by what was read of the state and, twice, of the unfinished step
  pub waits_on : (p : ℕ) (x y : Unfinished) (e : ProcEnd Proc) (a : Ask) → p < c → x ≡ get_or unfinished p x → y ≡ get_or unfinished p y → e ≡ get_or E p e → x.next ≡ Some a → Waits n (plan_of I p) (start_of I p) (cycles_of p H) e y (entries_left p y.plan) a
  waits_on p x y e a lt x-is y-is e-is next =
      let same : x ≡ y = read_twice unfinished p x y (omega (arith, k.count_unfinished)) x-is y-is in
      waits_at p e y a lt (sym e-is) (sym y-is) (ap (λ (t : Unfinished). t.next) (sym same) ∙ next)

  pub finished_at : (p : ℕ) (t : Unfinished) → p < c → get_or unfinished p t ≡ t → t.next ≡ None → HasFinished I n H p
  finished_at p t lt t-is next =
      let e = item E p (omega (arith, k.count)) in
      let h : EndsOrWaits n (plan_of I p) (start_of I p) (cycles_of p H) e.0 t (entries_left p t.plan) t.next = each_at p e.0 t lt e.1 t-is in
      (e.0, (rw next at h))

  joined_at : (q : ℕ) (e : ProcEnd Proc) (t : Unfinished) (left : Plan) (next : Option Ask) → q < c → EndsOrWaits n (plan_of I q) (start_of I q) (cycles_of q H) e t left next → is_joined next ≡ true → IsAmidGroup I c n H q
  joined_at q e t left None lt h j = absurd (let d : false ≡ true = j in cc)
  joined_at q e t left (Some a) lt h j = (lt, (h.wanted, (e, waits_as I n H q e t left a h), sym h.same.joined ∙ j))

  -- the processor that is named is amid a locked group
  pub amid_of_name : (q : ℕ) → midgroup ≡ Some q → IsAmidGroup I c n H q
  amid_of_name q is =
      let s = parts_of q (k.amid.below q is) in
      let j : is_joined s.step.next ≡ true = subst (λ (y : Unfinished). is_joined y.next ≡ true) s.step_is (k.amid.joined q s.step is) in
      joined_at q s.state s.step (entries_left q s.step.plan) s.step.next (k.amid.below q is) s.each j

  pub held_up : (p : ℕ) → is_another midgroup p ≡ true → IsPassedOver I c n H p
  held_up p h = inr (go midgroup refl h)
    where
      go : (m : Option ℕ) → midgroup ≡ m → is_another m p ≡ true → (q : ℕ) × (q ≢ p) × IsAmidGroup I c n H q
      go None is h = absurd (let d : false ≡ true = h in cc)
      go (Some q) is h = (q, (λ e. grind (arith, h, e)), amid_of_name q is)

  -- a processor whose next ask is joined is the one that is named
  named_at : (q : ℕ) (e2 : ProcEnd Proc) (b : Ask) (e : ProcEnd Proc) (t : Unfinished) (next : Option Ask) → q < c → get_or unfinished q t ≡ t → t.next ≡ next → EndsOrWaits n (plan_of I q) (start_of I q) (cycles_of q H) e t (entries_left q t.plan) next → WaitsAs I n H q e2 b → b.joined ≡ true → midgroup ≡ Some q
  named_at q e2 b e t None lt t-is is h w j = absurd (amid_not_finished e2.steps n (plan_of I q) (start_of I q) e2.after (cycles_of q H) b e w.fewer w.amid h)
  named_at q e2 b e t (Some a) lt t-is is h w j =
      let v = waits_as I n H q e t (entries_left q t.plan) a h in
      let same : h.wanted ≡ b = amid_same e.steps e2.steps (plan_of I q) 0 (start_of I q) e.after e2.after (cycles_of q H) h.wanted b v.amid w.amid in
      let joined : is_joined t.next ≡ true = rw is (h.same.joined ∙ ap (λ (x : Ask). x.joined) same ∙ j) in
      k.amid.alone q t lt (subst (λ (y : Unfinished). is_joined y.next ≡ true) (sym t-is) joined)

  pub name_of_amid : (q : ℕ) → IsAmidGroup I c n H q → midgroup ≡ Some q
  name_of_amid q h =
      let s = parts_of q h.0 in
      named_at q h.1.1.0 h.1.0 s.state s.step s.step.next h.0 s.step_is refl s.each h.1.1.1 h.1.2

  pub not_passed : (p : ℕ) (t : Unfinished) (a : Ask) → p < c → is_another midgroup p ≡ false → get_or unfinished p t ≡ t → t.next ≡ Some a → IsPassedOver I c n H p → ⊥
  not_passed p t a lt alone t-is next (inl f) =
      let e = item E p (omega (arith, k.count)) in
      let h = waits_at p e.0 t a lt e.1 t-is next in
      let w = waits_as I n H p e.0 t (entries_left p t.plan) a h in
      amid_not_finished e.0.steps n (plan_of I p) (start_of I p) e.0.after (cycles_of p H) h.wanted f.0 w.fewer w.amid f.1
  not_passed p t a lt alone t-is next (inr h) =
      let named : midgroup ≡ Some h.0 = name_of_amid h.0 h.2 in
      let b : is_another (Some h.0) p ≡ false = rw named at alone in
      h.1 (grind (arith, b))

  -- the processor that is named isn't passed over
  pub named_not_passed : (q : ℕ) → midgroup ≡ Some q → IsPassedOver I c n H q → ⊥
  named_not_passed q is (inl f) =
      let w = (amid_of_name q is).1.1 in
      amid_not_finished w.0.steps n (plan_of I q) (start_of I q) w.0.after (cycles_of q H) (amid_of_name q is).1.0 f.0 w.1.fewer w.1.amid f.1
  named_not_passed q is (inr h) =
      let both : Some h.0 ≡ Some q = sym (name_of_amid h.0 h.2) ∙ is in
      h.1 (let e : h.0 ≡ q = cc in e)

  -- where none is named, each that hasn't finished isn't passed over
  pub open_not_passed : (p : ℕ) (t : Unfinished) → midgroup ≡ None → p < c → get_or unfinished p t ≡ t → is_some t.next ≡ true → IsPassedOver I c n H p → ⊥
  open_not_passed p t none lt t-is some h = go t.next refl
    where
      go : (next : Option Ask) → t.next ≡ next → ⊥
      go None e = let d : false ≡ true = rw e at some in cc
      go (Some a) e = not_passed p t a lt (rw none refl) t-is e h

  -- a joined ask follows the processor's own cycle
  pub joined_follows : (p : ℕ) (t : Unfinished) (a : Ask) → p < c → get_or unfinished p t ≡ t → t.next ≡ Some a → a.joined ≡ true → last_cpu (past H) ≡ Some p
  joined_follows p t a lt t-is next j =
      let joined : is_joined t.next ≡ true = rw next j in
      k.amid.last p (k.amid.alone p t lt (subst (λ (y : Unfinished). is_joined y.next ≡ true) (sym t-is) joined))

  -- one that isn't passed over asks for a cycle that may be made
  pub lawful_at : (p : ℕ) (t : Unfinished) (a : Ask) → p < c → get_or unfinished p t ≡ t → t.next ≡ Some a → IsAsk a
  lawful_at p t a lt t-is next =
      let e = item E p (omega (arith, k.count)) in
      (waits_at p e.0 t a lt e.1 t-is next).lawful
