-- What is a run and what a phrase performs, and what isn't.
use Rattle.std.proofs.Common.{◌≡◌, ℕ, zero, suc, ◌+◌, ◌<◌, ◌≤◌, ◌⊎◌, inl, inr, List, [], ◌∷◌, ◌++◌, length, refl, sym, ap, ◌∙◌, append-nil, length-append, arith, Some, None, Ok, get_or, eq-eqb}
use Rattle.std.specs.List.{slice_get}
use Rattle.std.proofs.lemmas.Option.{slice_get_cases}
use Rattle.m386_base.specs.declared.ask.Ask.{Ask}
use Rattle.m386_base.specs.declared.ask.Cycle.{Cycle}
use Rattle.m386_base.specs.Bus.{BusView}
use Rattle.m386_base.specs.Phrase.{Phrase, Done, Asks, Whole, Wants, Performs, it, follow}
use Rattle.m386_image.specs.declared.image.Image.{Image}
use Rattle.m386_memory.specs.Contents.{Contents}
use Rattle.m386_memory.specs.History.{WellFormed, Consistent, Unsplit, cycles_of}
use Rattle.m386_memory.specs.declared.ended.ProcEnd.{ProcEnd}
use Rattle.m386_state.specs.declared.proc.Proc.{Proc}
use Rattle.m386_state.specs.declared.proc.Mode.TheVariants.{Shutdown}
use Rattle.m386_step.specs.Run.{Run, BeginsWith, start_of, plan_of}
use Rattle.m386_step.specs.Steps.{Plan, Steps, Runs}

no_step : (q : Plan) (s : Proc) → Runs q 0 s [] s 0
unfolding Steps
no_step q s = record { steps = (refl, refl); budget = inl refl }

some_cycle : (q : Plan) (s s2 : Proc) (t : Ask) (ts : List Ask) (k : ℕ) → Runs q 0 s (t ∷ ts) s2 k → ⊥
unfolding Steps
some_cycle q s s2 t ts zero h = let e : t ∷ ts ≡ [] = h.steps.0 in let l : length (t ∷ ts) ≡ 0 = ap length e in omega arith
some_cycle q s s2 t ts (suc k) h = go h.budget
  where
    go : (suc k ≡ 0) ⊎ ((suc k < 0) × (s2.mode ≡ Shutdown)) → ⊥
    go (inl e) = omega arith
    go (inr l) = let b : suc k < 0 = l.0 in omega arith

-- where no step may be made, the empty history is a run
pub run_of_no_steps : (I : Image) (c : ℕ) (first : Contents) (E : List (ProcEnd Proc)) → BeginsWith I first → length E ≡ c → ((p : ℕ) (e : ProcEnd Proc) → slice_get E p ≡ Some e → (e.after ≡ start_of I p) × (e.steps ≡ 0)) → Run I c 0 [] E
unfolding WellFormed Consistent Unsplit
run_of_no_steps I c first E begins count ends = record {
  below = tt;
  first = first;
  begins = begins;
  history = record { formed = tt; consistent = tt; unsplit = tt };
  count = count;
  walks = λ p e stands. let w = ends p e stands in rw (w.0, w.1) (no_step (plan_of I p) (start_of I p));
}

own_first : (x : Cycle) (H : List Cycle) → cycles_of x.cpu (x ∷ H) ≡ x.ask ∷ cycles_of x.cpu H
own_first x H = rw (eq-eqb x.cpu x.cpu refl) refl

-- where no step may be made, no history with a cycle is one
pub cycle_of_no_steps : (I : Image) (c : ℕ) (x : Cycle) (H : List Cycle) (E : List (ProcEnd Proc)) → Run I c 0 (x ∷ H) E → ⊥
cycle_of_no_steps I c x H E r = go (slice_get_cases E x.cpu).1
  where
    go : ((e : ProcEnd Proc) × (x.cpu < length E) × (slice_get E x.cpu ≡ Some e) × (get_or E x.cpu e ≡ e)) ⊎ ((length E ≤ x.cpu) × (slice_get E x.cpu ≡ None)) → ⊥
    go (inl s) =
        let w : Runs (plan_of I x.cpu) 0 (start_of I x.cpu) (cycles_of x.cpu (x ∷ H)) s.0.after s.0.steps = r.walks x.cpu s.0 s.2 in
        some_cycle (plan_of I x.cpu) (start_of I x.cpu) s.0.after x.ask (cycles_of x.cpu H) s.0.steps (rw (own_first x H) at w)
    go (inr s) = let b : x.cpu < c = r.below.0 in let e : length E ≡ c = r.count in let l : length E ≤ x.cpu = s.0 in omega arith

-- a list isn't longer than itself
none_more : {A : Type 0} (xs ys : List A) → xs ≡ xs ++ ys → ys ≡ []
none_more xs [] e = refl
none_more xs (y ∷ ys) e =
    let l : length xs ≡ length xs + length (y ∷ ys) = ap length e ∙ length-append xs (y ∷ ys) in
    absurd (omega arith)

-- what is found with no cycle is performed with none
pub performs_none : {A : Type 0} (v : BusView) (a : A) → Performs (Done a) v v it (Ok a)
unfolding follow
performs_none v a = record { added = []; cycles = sym (append-nil v.cycles); whole = λ rest. refl; same = record { stops = refl; pauses = refl; origin = refl } }

asks_first : {A : Type 0} (q : Ask) (k : ℕ → Phrase A) (a : A) (ts : List Ask) → ts ≡ [] → follow (Asks q k) (ts ++ []) ≡ Whole a [] → ⊥
unfolding follow
asks_first q k a ts none e =
    let w : Wants q ≡ Whole a [] = rw none at e in
    cc

-- what asks for a cycle isn't performed with none
pub performs_some : {A : Type 0} (q : Ask) (k : ℕ → Phrase A) (v : BusView) (a : A) → Performs (Asks q k) v v it (Ok a) → ⊥
performs_some q k v a h = asks_first q k a h.added (none_more v.cycles h.added h.cycles) (h.whole [])
