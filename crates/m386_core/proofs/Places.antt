-- There is one place where a processor may be after its cycles.
use Rattle.std.proofs.Common.{◌≡◌, ◌≢◌, ℕ, zero, suc, ◌+◌, ◌<◌, ◌≤◌, List, [], ◌++◌, refl, sym, ◌∙◌, add-zero, add-one, arith, inl, inr}
use Rattle.m386_base.specs.declared.ask.Ask.{Ask}
use Rattle.m386_base.specs.Phrase.{Judgement, Whole, Wants}
use Rattle.m386_base.proofs.Bounds.{follow-front}
use Rattle.m386_memory.specs.declared.ended.ProcEnd.{ProcEnd}
use Rattle.m386_state.specs.declared.proc.Mode.TheVariants.{Shutdown}
use Rattle.m386_state.specs.declared.proc.Proc.{Proc}
use Rattle.m386_step.specs.Step.{step_phrase, Follow}
use Rattle.m386_step.specs.Steps.{Plan, Steps, Runs, requested, planned}
use Rattle.m386_core.specs.Place.{Amid}
use Rattle.m386_core.specs.Unfinished.{StepsLeaving}

-- ---- whole steps, and what they leave of the plan

-- no step yet
pub leaves_all : (q : Plan) (j : ℕ) (s : Proc) → StepsLeaving 0 q j s [] s q
unfolding StepsLeaving
leaves_all q j s = (refl, refl, refl)

-- without what is left they are whole steps
pub leaving_steps : (k : ℕ) (q : Plan) (j : ℕ) (s s2 : Proc) (ts : List Ask) (left : Plan) → StepsLeaving k q j s ts s2 left → Steps k q j s ts s2
unfolding Steps StepsLeaving
leaving_steps zero q j s s2 ts left h = (h.0, h.1)
leaving_steps (suc k) q j s s2 ts left h = (h.0, h.1, h.2, h.3, leaving_steps k (planned q j s) (j + 1) h.1 s2 h.2 left h.4)

-- one more whole step
leaves_more : (k : ℕ) (q : Plan) (j : ℕ) (s mid s2 : Proc) (ts us : List Ask) (left : Plan) → StepsLeaving k q j s ts mid left → mid.mode ≢ Shutdown → Follow (requested left (j + k) mid) us ≡ Whole s2 [] → StepsLeaving (suc k) q j s (ts ++ us) s2 (planned left (j + k) mid)
unfolding StepsLeaving
leaves_more zero q j s mid s2 ts us left h lives f =
    let ts_is : ts ≡ [] = h.0 in
    let mid_is : mid ≡ s = h.1 in
    let left_is : left ≡ q = h.2 in
    let l : s.mode ≢ Shutdown = rw mid_is at lives in
    let g : Follow (requested q j s) us ≡ Whole s2 [] = rw (left_is, mid_is, add-zero) at f in
    rw (ts_is, left_is, mid_is, add-zero) (l, s2, [], g, (refl, refl, refl))
leaves_more (suc k) q j s mid s2 ts us left h lives f =
    let i : j + suc k ≡ j + 1 + k = omega arith in
    let g : Follow (requested left (j + 1 + k) mid) us ≡ Whole s2 [] = rw i at f in
    rw i (h.0, h.1, h.2 ++ us, follow-front (step_phrase (requested q j s)) h.1 ts h.2 us h.3, leaves_more k (planned q j s) (j + 1) h.1 mid s2 h.2 us left h.4 lives g)

pub leaving_more : (k : ℕ) (q : Plan) (s mid s2 : Proc) (ts us : List Ask) (left : Plan) → StepsLeaving k q 0 s ts mid left → mid.mode ≢ Shutdown → Follow (requested left k mid) us ≡ Whole s2 [] → StepsLeaving (k + 1) q 0 s (ts ++ us) s2 (planned left k mid)
leaving_more k q s mid s2 ts us left h lives f =
    let i : 0 + k ≡ k = omega arith in
    let g : Follow (requested left (0 + k) mid) us ≡ Whole s2 [] = rw i f in
    rw (add-one k) (rw i at (leaves_more k q 0 s mid s2 ts us left h lives g))

-- a proper front of one more
amid_after : (k : ℕ) (q : Plan) (j : ℕ) (s s2 : Proc) (whole front : List Ask) (left : Plan) (a : Ask) → StepsLeaving k q j s whole s2 left → s2.mode ≢ Shutdown → Follow (requested left (j + k) s2) front ≡ Wants a → Amid k q j s (whole ++ front) s2 a
unfolding StepsLeaving Amid
amid_after zero q j s s2 whole front left a h lives f =
    let w : whole ≡ [] = h.0 in
    let e : s2 ≡ s = h.1 in
    let left_is : left ≡ q = h.2 in
    let l : s.mode ≢ Shutdown = rw e at lives in
    let g : Follow (requested q j s) front ≡ Wants a = rw (left_is, e, add-zero) at f in
    rw w (l, e, g)
amid_after (suc k) q j s s2 whole front left a h lives f =
    let i : j + suc k ≡ j + 1 + k = omega arith in
    let g : Follow (requested left (j + 1 + k) s2) front ≡ Wants a = rw i at f in
    (h.0, h.1, h.2 ++ front, follow-front (step_phrase (requested q j s)) h.1 whole h.2 front h.3, amid_after k (planned q j s) (j + 1) h.1 s2 h.2 front left a h.4 lives g)

pub amid_behind : (q : Plan) (k : ℕ) (s s2 : Proc) (whole front : List Ask) (left : Plan) (a : Ask) → StepsLeaving k q 0 s whole s2 left → s2.mode ≢ Shutdown → Follow (requested left k s2) front ≡ Wants a → Amid k q 0 s (whole ++ front) s2 a
amid_behind q k s s2 whole front left a h lives f =
    let i : 0 + k ≡ k = omega arith in
    amid_after k q 0 s s2 whole front left a h lives (rw i f)

-- ---- where a processor may be

-- what two judgements of the same cycles share
pub record SameWhole (mid mid2 : Proc) (rest rest2 : List Ask) : Type 0 where
  pub same_after : mid2 ≡ mid
  pub same_rest : rest2 ≡ rest

pub whole_same : (j : Judgement Proc) (mid mid2 : Proc) (rest rest2 : List Ask) → j ≡ Whole mid rest → j ≡ Whole mid2 rest2 → SameWhole mid mid2 rest rest2
whole_same j mid mid2 rest rest2 e f = record { same_after = cc; same_rest = cc }

-- whole steps of the same cycles end before the state of the unfinished step is left, and not in shutdown
pub record EndsWithin (k2 k : ℕ) (s3 : Proc) : Type 0 where
  pub within : k2 ≤ k
  pub lives : s3.mode ≢ Shutdown

pub amid_steps : (k k2 : ℕ) (q : Plan) (j : ℕ) (s s2 s3 : Proc) (ts : List Ask) (a : Ask) → Amid k q j s ts s2 a → Steps k2 q j s ts s3 → EndsWithin k2 k s3
unfolding Steps Amid
amid_steps zero zero q j s s2 s3 ts a h g =
    let e : s3 ≡ s = g.1 in
    record { within = omega arith; lives = rw e h.0 }
amid_steps (suc k) zero q j s s2 s3 ts a h g =
    let e : s3 ≡ s = g.1 in
    record { within = omega arith; lives = rw e h.0 }
amid_steps zero (suc k2) q j s s2 s3 ts a h g =
    let d : Wants a ≡ Whole g.1 g.2 = sym h.2 ∙ g.3 in cc
amid_steps (suc k) (suc k2) q j s s2 s3 ts a h g =
    let e = whole_same (Follow (requested q j s) ts) h.1 g.1 h.2 g.2 h.3 g.3 in
    let steps : Steps k2 (planned q j s) (j + 1) h.1 h.2 s3 = rw (e.same_after, e.same_rest) at g.4 in
    let r = amid_steps k k2 (planned q j s) (j + 1) h.1 s2 s3 h.2 a h.4 steps in
    record { within = omega (arith, r.within); lives = r.lives }

-- a processor that waits hasn't finished
pub amid_not_finished : (k n : ℕ) (q : Plan) (s s2 : Proc) (ts : List Ask) (a : Ask) (e : ProcEnd Proc) → k < n → Amid k q 0 s ts s2 a → Runs q n s ts e.after e.steps → ⊥
amid_not_finished k n q s s2 ts a e fewer h r =
    let b = amid_steps k e.steps q 0 s s2 e.after ts a h r.steps in
    elim r.budget [ inl used ↦ absurd (omega (arith, b.within)) | inr down ↦ b.lives down.1 ]

-- and it waits for one cycle
pub amid_same : (k k2 : ℕ) (q : Plan) (j : ℕ) (s s2 s3 : Proc) (ts : List Ask) (a b : Ask) → Amid k q j s ts s2 a → Amid k2 q j s ts s3 b → a ≡ b
unfolding Amid
amid_same zero zero q j s s2 s3 ts a b h g =
    let d : Wants a ≡ Wants b = sym h.2 ∙ g.2 in cc
amid_same zero (suc k2) q j s s2 s3 ts a b h g =
    let d : Wants a ≡ Whole g.1 g.2 = sym h.2 ∙ g.3 in cc
amid_same (suc k) zero q j s s2 s3 ts a b h g =
    let d : Whole h.1 h.2 ≡ Wants b = sym h.3 ∙ g.2 in cc
amid_same (suc k) (suc k2) q j s s2 s3 ts a b h g =
    let e = whole_same (Follow (requested q j s) ts) h.1 g.1 h.2 g.2 h.3 g.3 in
    let other : Amid k2 (planned q j s) (j + 1) h.1 h.2 s3 b = rw (e.same_after, e.same_rest) at g.4 in
    amid_same k k2 (planned q j s) (j + 1) h.1 s2 s3 h.2 a b h.4 other
