-- Two runs of whole steps that have made the same cycles go on with the same, and end in the same way.
use Rattle.std.proofs.Common.{◌≡◌, ◌≢◌, ℕ, zero, suc, ◌+◌, ◌<◌, ◌≤◌, Bool, true, false, List, [], ◌∷◌, ◌++◌, length, refl, sym, ap, subst, ◌∙◌, ◌⊎◌, inl, inr, arith}
use Rattle.std.proofs.lemmas.Bool.{cases_lt}
use Rattle.std.proofs.lemmas.List.{length-append}
use Rattle.m386_base.specs.declared.ask.Ask.{Ask}
use Rattle.m386_base.specs.Phrase.{Phrase, Done, Faults, Asks, Begins, Judgement, follow, Whole, Wants, Wrong, matches, answer_of}
use Rattle.m386_state.specs.declared.proc.Mode.TheVariants.{Shutdown}
use Rattle.m386_state.specs.declared.proc.Proc.{Proc}
use Rattle.m386_step.specs.Step.{step_phrase, Follow}
use Rattle.m386_step.specs.Steps.{Plan, Steps, Runs, requested, planned}
use Rattle.m386_step.proofs.WholeSteps.{one_end}
use Rattle.m386_core.proofs.Places.{whole_same}

-- ---- one cycle more of a phrase

-- these cycles want the ask that the next one was made of
pub record WantsFor {A : Type 0} (t : Phrase A) (ts : List Ask) (x : Ask) : Type 0 where
  pub wanted : Ask
  pub wants : follow t ts ≡ Wants wanted
  pub made : matches wanted x ≡ true

-- a front of these cycles is the whole phrase already, and the next one stands in the rest
pub record IsWholeBefore {A : Type 0} (t : Phrase A) (a : A) (ts : List Ask) (x : Ask) (us rest : List Ask) : Type 0 where
  pub more : List Ask
  pub whole : follow t ts ≡ Whole a more
  pub rest_is : rest ≡ more ++ x ∷ us

wants_more : {A : Type 0} (q : Ask) (k : ℕ → Phrase A) (y x : Ask) (ts : List Ask) → matches q y ≡ true → WantsFor (k (answer_of y)) ts x → WantsFor (Asks q k) (y ∷ ts) x
unfolding follow
wants_more q k y x ts m w = record { wanted = w.wanted; wants = rw m w.wants; made = w.made }

whole_more : {A : Type 0} (q : Ask) (k : ℕ → Phrase A) (a : A) (y x : Ask) (ts us rest : List Ask) → matches q y ≡ true → IsWholeBefore (k (answer_of y)) a ts x us rest → IsWholeBefore (Asks q k) a (y ∷ ts) x us rest
unfolding follow
whole_more q k a y x ts us rest m w = record { more = w.more; whole = rw m w.whole; rest_is = w.rest_is }

-- where a phrase is whole over cycles, each of them is wanted by those before it, or stands behind the phrase
whole_splits : {A : Type 0} (t : Phrase A) (a : A) (ts : List Ask) (x : Ask) (us rest : List Ask) → follow t (ts ++ x ∷ us) ≡ Whole a rest → WantsFor t ts x ⊎ IsWholeBefore t a ts x us rest
unfolding follow
whole_splits (Done b) a ts x us rest e =
    let i : b ≡ a = cc in
    let j : ts ++ x ∷ us ≡ rest = cc in
    inr (record { more = ts; whole = ap (λ c. Whole c ts) i; rest_is = sym j })
whole_splits (Faults f) a ts x us rest e = absurd (cc)
whole_splits (Begins m t) a ts x us rest e = elim (whole_splits t a ts x us rest e) [
  | inl w ↦ inl (record { wanted = w.wanted; wants = w.wants; made = w.made })
  | inr w ↦ inr (record { more = w.more; whole = w.whole; rest_is = w.rest_is })
]
whole_splits {A = A} (Asks q k) a [] x us rest e = go (matches q x) refl
  where
    go : (b : Bool) → matches q x ≡ b → WantsFor (Asks q k) [] x ⊎ IsWholeBefore (Asks q k) a [] x us rest
    go true m = inl (record { wanted = q; wants = refl; made = m })
    go false m = let d : Wrong ≡ Whole a rest = rw m at e in absurd (cc)
whole_splits {A = A} (Asks q k) a (y ∷ ts) x us rest e = go (matches q y) refl (whole_splits (k (answer_of y)) a ts x us rest)
  where
    go : (b : Bool) → matches q y ≡ b → (follow (k (answer_of y)) (ts ++ x ∷ us) ≡ Whole a rest → WantsFor (k (answer_of y)) ts x ⊎ IsWholeBefore (k (answer_of y)) a ts x us rest) → WantsFor (Asks q k) (y ∷ ts) x ⊎ IsWholeBefore (Asks q k) a (y ∷ ts) x us rest
    go true m ih = elim (ih (rw m at e)) [
      | inl w ↦ inl (wants_more q k y x ts m w)
      | inr w ↦ inr (whole_more q k a y x ts us rest m w)
    ]
    go false m ih = let d : Wrong ≡ Whole a rest = rw m at e in absurd (cc)

-- ---- one cycle more of whole steps

-- two cycles that were made of one ask
pub record OfOneAsk (x y : Ask) : Type 0 where
  pub wanted : Ask
  pub first : matches wanted x ≡ true
  pub second : matches wanted y ≡ true

some_cycle : (ts : List Ask) (x : Ask) (us : List Ask) → ts ++ x ∷ us ≡ [] → ⊥
some_cycle ts x us e =
    let l : length (ts ++ x ∷ us) ≡ 0 = ap length e in
    omega (arith, l, length-append ts (x ∷ us))

one_wanted : (j : Judgement Proc) (a b : Ask) → j ≡ Wants a → j ≡ Wants b → a ≡ b
one_wanted j a b e f = let d : Wants a ≡ Wants b = sym e ∙ f in cc

not_both : (j : Judgement Proc) (a : Ask) (p : Proc) (rest : List Ask) → j ≡ Wants a → j ≡ Whole p rest → ⊥
not_both j a p rest e f = let d : Wants a ≡ Whole p rest = sym e ∙ f in cc

pub next_of_one_ask : (j k : ℕ) (q : Plan) (i : ℕ) (s s2 s3 : Proc) (ts : List Ask) (x y : Ask) (us vs : List Ask) → Steps j q i s (ts ++ x ∷ us) s2 → Steps k q i s (ts ++ y ∷ vs) s3 → OfOneAsk x y
unfolding Steps
next_of_one_ask zero k q i s s2 s3 ts x y us vs g h = absurd (some_cycle ts x us g.0)
next_of_one_ask (suc j) zero q i s s2 s3 ts x y us vs g h = absurd (some_cycle ts y vs h.0)
next_of_one_ask (suc j) (suc k) q i s s2 s3 ts x y us vs g h =
    let p : Proc = requested q i s in
    elim (whole_splits (step_phrase p) g.1 ts x us g.2 g.3) [
      | inl v ↦ elim (whole_splits (step_phrase p) h.1 ts y vs h.2 h.3) [
        | inl w ↦ record { wanted = v.wanted; first = v.made; second = subst (λ (a : Ask). matches a y ≡ true) (one_wanted (Follow p ts) w.wanted v.wanted w.wants v.wants) w.made }
        | inr w ↦ absurd (not_both (Follow p ts) v.wanted h.1 w.more v.wants w.whole)
      ]
      | inr v ↦ elim (whole_splits (step_phrase p) h.1 ts y vs h.2 h.3) [
        | inl w ↦ absurd (not_both (Follow p ts) w.wanted g.1 v.more w.wants v.whole)
        | inr w ↦
            let one = whole_same (Follow p ts) g.1 h.1 v.more w.more v.whole w.whole in
            let first : Steps j (planned q i s) (i + 1) g.1 (v.more ++ x ∷ us) s2 = rw v.rest_is at g.4 in
            let second : Steps k (planned q i s) (i + 1) g.1 (v.more ++ y ∷ vs) s3 = rw (w.rest_is, one.same_after, one.same_rest) at h.4 in
            next_of_one_ask j k (planned q i s) (i + 1) g.1 s2 s3 v.more x y us vs first second
      ]
    ]

-- ---- the end

-- fewer whole steps of the same cycles don't end in shutdown
fewer_live : (k m : ℕ) (q : Plan) (i : ℕ) (s s2 s3 : Proc) (ts : List Ask) → k < m → Steps k q i s ts s2 → Steps m q i s ts s3 → s2.mode ≢ Shutdown
unfolding Steps
fewer_live zero zero q i s s2 s3 ts lt g h = absurd (omega arith)
fewer_live zero (suc m) q i s s2 s3 ts lt g h = let e : s2 ≡ s = g.1 in rw e h.0
fewer_live (suc k) zero q i s s2 s3 ts lt g h = absurd (omega arith)
fewer_live (suc k) (suc m) q i s s2 s3 ts lt g h =
    let one = whole_same (Follow (requested q i s) ts) g.1 h.1 g.2 h.2 g.3 h.3 in
    let second : Steps m (planned q i s) (i + 1) g.1 g.2 s3 = rw (one.same_after, one.same_rest) at h.4 in
    fewer_live k m (planned q i s) (i + 1) g.1 s2 s3 g.2 (omega arith) g.4 second

not_fewer : (q : Plan) (n : ℕ) (s s2 s3 : Proc) (ts : List Ask) (k m : ℕ) → Runs q n s ts s2 k → Runs q n s ts s3 m → k < m → ⊥
not_fewer q n s s2 s3 ts k m g h lt = elim g.budget [
  | inl all ↦ elim h.budget [ inl used ↦ omega (arith, all, used, lt) | inr down ↦ omega (arith, all, down.0, lt) ]
  | inr down ↦ fewer_live k m q 0 s s2 s3 ts lt g.steps h.steps down.1
]

-- how two runs of one processor with the same cycles end
pub record EndsAlike (s2 s3 : Proc) (k m : ℕ) : Type 0 where
  pub same_state : s2 ≡ s3
  pub same_steps : k ≡ m

pub runs_end_alike : (q : Plan) (n : ℕ) (s s2 s3 : Proc) (ts : List Ask) (k m : ℕ) → Runs q n s ts s2 k → Runs q n s ts s3 m → EndsAlike s2 s3 k m
runs_end_alike q n s s2 s3 ts k m g h = go (cases_lt k m) (cases_lt m k)
  where
    go : (k < m) ⊎ (m ≤ k) → (m < k) ⊎ (k ≤ m) → EndsAlike s2 s3 k m
    go (inl lt) c = absurd (not_fewer q n s s2 s3 ts k m g h lt)
    go (inr le) (inl lt) = absurd (not_fewer q n s s3 s2 ts m k h g lt)
    go (inr le) (inr ge) =
        let e : k ≡ m = omega (arith, le, ge) in
        let g2 : Steps m q 0 s ts s2 = rw e at g.steps in
        record { same_state = one_end m q 0 s s2 s3 ts g2 h.steps; same_steps = e }
