-- A run has no more cycles than its steps may have.
use Rattle.std.proofs.Common.{◌≡◌, ◌≢◌, ℕ, zero, suc, ◌+◌, ◌*◌, ◌<◌, ◌≤◌, Bool, true, false, cond, eqb, ltb, List, [], ◌∷◌, length, map, filter, refl, ap, ◌∙◌, arith, inl, inr, Some}
use Rattle.std.proofs.Math.Nat.{mul-suc}
use Rattle.std.specs.List.{AllByRecursion}
use Rattle.std.proofs.lemmas.Bool.{cases_lt, lt-ltb, le-ltb}
use Rattle.std.proofs.lemmas.Option.{slice_get-get_or}
use Rattle.m386_base.specs.declared.ask.Ask.{Ask}
use Rattle.m386_base.specs.declared.ask.Cycle.{Cycle}
use Rattle.m386_base.specs.Laws.{AtMost}
use Rattle.m386_base.specs.Phrase.{Phrase, Done, Faults, Asks, Begins, follow, Whole, Wrong, matches, answer_of}
use Rattle.m386_base.proofs.Growth.{at_most_wants}
use Rattle.m386_image.specs.declared.image.Image.{Image}
use Rattle.m386_memory.specs.Contents.{Contents}
use Rattle.m386_memory.specs.History.{cycles_of}
use Rattle.m386_memory.specs.declared.ended.ProcEnd.{ProcEnd}
use Rattle.m386_state.specs.declared.proc.Proc.{Proc}
use Rattle.m386_step.specs.Step.{step_phrase}
use Rattle.m386_step.specs.Steps.{Plan, Steps, requested, planned}
use Rattle.m386_step.proofs.Short.{short_step}
use Rattle.m386_core.specs.Machine.{IsPlaced, IsFrontOfRun}
use Rattle.m386_core.specs.Place.{Amid}
use Rattle.m386_core.proofs.Keeping.{item}

-- ---- one processor

-- a whole phrase at the front of cycles
at_most_rest : {A : Type 0} (n : ℕ) (t : Phrase A) (a : A) (ts rest : List Ask) → AtMost n t → follow t ts ≡ Whole a rest → length ts ≤ n + length rest
unfolding follow
at_most_rest n (Done b) a ts rest h e = let i : ts ≡ rest = cc in rw i (omega arith)
at_most_rest n (Faults f) a ts rest h e = cc
at_most_rest n (Begins m t) a ts rest h e = at_most_rest n t a ts rest h e
at_most_rest zero (Asks q k) a ts rest h e = absurd h
at_most_rest (suc n) (Asks q k) a [] rest h e = cc
at_most_rest {A = A} (suc n) (Asks q k) a (t ∷ ts) rest h e = go (matches q t) refl (at_most_rest n (k (answer_of t)) a ts rest (h (answer_of t)))
  where
    go : (b : Bool) → matches q t ≡ b → (follow (k (answer_of t)) ts ≡ Whole a rest → length ts ≤ n + length rest) → length (t ∷ ts) ≤ suc n + length rest
    go true f ih = let i : length ts ≤ n + length rest = ih (rw f at e) in omega arith
    go false f ih = let d : Wrong ≡ Whole a rest = rw f at e in cc

steps_length : (k : ℕ) (q : Plan) (j : ℕ) (s s2 : Proc) (ts : List Ask) → Steps k q j s ts s2 → length ts ≤ 192 * k
unfolding Steps
steps_length zero q j s s2 ts h = omega (arith, ap length h.0)
steps_length (suc k) q j s s2 ts h =
    let l = at_most_rest 192 (step_phrase (requested q j s)) h.1 ts h.2 (short_step (requested q j s)) h.3 in
    let r = steps_length k (planned q j s) (j + 1) h.1 s2 h.2 h.4 in
    omega arith

amid_length : (k : ℕ) (q : Plan) (j : ℕ) (s s2 : Proc) (ts : List Ask) (a : Ask) → Amid k q j s ts s2 a → length ts ≤ 192 * (k + 1)
unfolding Amid
amid_length zero q j s s2 ts a h =
    let l = at_most_wants 192 (step_phrase (requested q j s)) a ts (short_step (requested q j s)) h.2 in
    omega arith
amid_length (suc k) q j s s2 ts a h =
    let l = at_most_rest 192 (step_phrase (requested q j s)) h.1 ts h.2 (short_step (requested q j s)) h.3 in
    let r = amid_length k (planned q j s) (j + 1) h.1 s2 h.2 a h.4 in
    omega arith

placed_length : (I : Image) (n : ℕ) (H : List Cycle) (p : ℕ) (e : ProcEnd Proc) → IsPlaced I n H p e → length (cycles_of p H) ≤ 192 * n
placed_length I n H p e (inl r) =
    let l = steps_length e.steps _ 0 _ e.after (cycles_of p H) r.steps in
    elim r.budget [ inl used ↦ omega arith | inr down ↦ omega (arith, down.0) ]
placed_length I n H p e (inr w) =
    let l = amid_length e.steps _ 0 _ e.after (cycles_of p H) w.0 w.1.amid in
    omega (arith, w.1.fewer)

-- ---- all of them

-- how many of these cycles the processors below k made
made_below : ℕ → List Cycle → ℕ
made_below k [] = 0
made_below k (x ∷ H) = cond (ltb x.cpu k) 1 0 + made_below k H

below_zero : (H : List Cycle) → made_below 0 H ≡ 0
unfolding made_below
below_zero [] = refl
below_zero (x ∷ H) = rw (le-ltb x.cpu 0 (omega arith)) (omega (arith, below_zero H))

below_next : (k : ℕ) (H : List Cycle) → made_below (k + 1) H ≡ made_below k H + length (cycles_of k H)
unfolding made_below
below_next k [] = refl
below_next k (x ∷ H) = go (eqb x.cpu k) refl (below_next k H)
  where
    go : (b : Bool) → eqb x.cpu k ≡ b → made_below (k + 1) H ≡ made_below k H + length (cycles_of k H) → cond (ltb x.cpu (k + 1)) 1 0 + made_below (k + 1) H ≡ cond (ltb x.cpu k) 1 0 + made_below k H + length (map (λ (y : Cycle). y.ask) (cond b (x ∷ filter (λ (y : Cycle). eqb y.cpu k) H) (filter (λ (y : Cycle). eqb y.cpu k) H)))
    go true e ih =
        let i : x.cpu ≡ k = grind (arith, e) in
        rw (lt-ltb x.cpu (k + 1) (omega arith), le-ltb x.cpu k (omega arith)) (omega arith)
    go false e ih = elim (cases_lt x.cpu k) [
      | inl lt ↦ rw (lt-ltb x.cpu (k + 1) (omega arith), lt-ltb x.cpu k lt) (omega arith)
      | inr le ↦
          let i : x.cpu ≢ k = grind (arith, e) in
          rw (le-ltb x.cpu (k + 1) (omega arith), le-ltb x.cpu k le) (omega arith)
    ]

below_all : (c : ℕ) (H : List Cycle) → AllByRecursion (λ (x : Cycle). x.cpu < c) H → made_below c H ≡ length H
unfolding made_below
below_all c [] h = refl
below_all c (x ∷ H) h = rw (lt-ltb x.cpu c h.0) (omega (arith, below_all c H h.1))

below_bound : (m : ℕ) (H : List Cycle) (k : ℕ) → ((p : ℕ) → p < k → length (cycles_of p H) ≤ m) → made_below k H ≤ m * k
below_bound m H zero h = omega (arith, below_zero H)
below_bound m H (suc k) h =
    let l = below_bound m H k (λ p lt. h p (omega arith)) in
    let own : length (cycles_of k H) ≤ m = h k (omega arith) in
    let i : suc k ≡ k + 1 = omega arith in
    let next : made_below (suc k) H ≡ made_below k H + length (cycles_of k H) = ap (λ (x : ℕ). made_below x H) i ∙ below_next k H in
    omega (arith, mul-suc m k)

-- a front of a run has no more cycles than its processors' steps may have
pub front_length : (I : Image) (c n : ℕ) (first : Contents) (H : List Cycle) (E : List (ProcEnd Proc)) → IsFrontOfRun I c n first H E → length H ≤ 192 * n * c
front_length I c n first H E f =
    let each : (p : ℕ) → p < c → length (cycles_of p H) ≤ 192 * n = λ p lt. (let e = item E p (omega (arith, f.count)) in placed_length I n H p e.0 (f.places p e.0 (slice_get-get_or E p e.0 (omega (arith, f.count)) ∙ ap Some e.1))) in
    omega (arith, below_all c H f.below, below_bound (192 * n) H c each)
