-- Histories in their order, and fronts of them.
use Rattle.std.proofs.Common.{arith, ◌≡◌, ℕ, ◌<◌, ◌≤◌, ◌==◌, Bool, true, false, cond, List, [], ◌∷◌, ◌++◌, map, filter, reverse, append-nil, append_assoc, refl, sym, ap, ◌∙◌, subst, ◌⊎◌, inl, inr}
use Rattle.std.specs.List.{AllByRecursion}
use Rattle.std.proofs.lemmas.List.{reverse-append}
use Rattle.m386_base.specs.declared.ask.Ask.{Ask}
use Rattle.m386_base.specs.declared.ask.Cycle.{Cycle}
use Rattle.m386_base.specs.Phrase.{Phrase, Done, Faults, Asks, Begins as BeginsWork, follow, matches, answer_of, Whole, Wants, Wrong}
use Rattle.m386_base.proofs.Matched.{cycle_matched}
use Rattle.m386_memory.specs.Contents.{Contents}
use Rattle.m386_memory.specs.History.{past, cycles_of, Consistent, Unsplit}
use Rattle.m386_state.specs.declared.proc.Proc.{Proc}
use Rattle.m386_exclusion.specs.Histories.{Place, Rest, Amid, Reaches, Says, Passes, Leaves, of, AreBelow, IsWalked}
use Rattle.m386_exclusion.proofs.Counts.{test}
use Rattle.m386_exclusion.proofs.Histories.{newest, of-own, of-other}

-- a list laid on another, its last item on top
unfoldable pub onto : {A : Type 0} → List A → List A → List A
onto [] us = us
onto (t ∷ ts) us = onto ts (t ∷ us)

pub past_onto : {A : Type 0} (xs ys : List A) → reverse xs ++ ys ≡ onto xs ys
unfolding onto
past_onto [] ys = refl
past_onto {A = A} (x ∷ xs) ys =
    let e : reverse (x ∷ xs) ≡ reverse xs ++ x ∷ [] = reverse-append (x ∷ []) xs in
    ap (λ (l : List A). l ++ ys) e ∙ append_assoc (reverse xs) (x ∷ []) ys ∙ past_onto xs (x ∷ ys)

pub past_is : (H : List Cycle) → past H ≡ onto H []
past_is H = sym (append-nil (reverse H)) ∙ past_onto H []

pub onto_append : {A : Type 0} (xs ys us : List A) → onto (xs ++ ys) us ≡ onto ys (onto xs us)
unfolding onto
onto_append [] ys us = refl
onto_append (x ∷ xs) ys us = onto_append xs ys (x ∷ us)

pub of_onto : (p : ℕ) (H G : List Cycle) → of p (onto H G) ≡ onto (cycles_of p H) (of p G)
unfolding onto of
of_onto p [] G = refl
of_onto p (x ∷ H) G = go (x.cpu == p) refl (of_onto p H (x ∷ G))
  where
    go : (b : Bool) → (x.cpu == p) ≡ b → of p (onto H (x ∷ G)) ≡ onto (cycles_of p H) (of p (x ∷ G)) → of p (onto H (x ∷ G)) ≡ onto (map (λ (c : Cycle). c.ask) (cond (x.cpu == p) (x ∷ filter (λ (c : Cycle). c.cpu == p) H) (filter (λ (c : Cycle). c.cpu == p) H))) (of p G)
    go true e i = i ∙ rw e refl
    go false e i = i ∙ rw e refl

-- a whole step leads from where it begins to its end
pub record Led (step : Proc → Phrase Proc) (s0 : Proc) (ts us rest : List Ask) (mid : Proc) : Type 0 where
  pub cycles : List Ask
  pub reaches : Reaches step s0 cycles (Rest mid)
  pub laid : onto ts us ≡ onto rest cycles

pub whole_leads : (step : Proc → Phrase Proc) (s0 r : Proc) (t : Phrase Proc) (ts us rest : List Ask) (mid : Proc) → follow t ts ≡ Whole mid rest → Reaches step s0 us (Amid r t) → Led step s0 ts us rest mid
unfolding follow onto
whole_leads step s0 r (Done a) ts us rest mid e h =
    let i : a ≡ mid = cc in
    let j : ts ≡ rest = cc in
    record { cycles = us; reaches = subst (λ m. Reaches step s0 us (Rest m)) i (Leaves h); laid = ap (λ l. onto l us) j }
whole_leads step s0 r (Faults f) ts us rest mid e h = cc
whole_leads step s0 r (BeginsWork m t) ts us rest mid e h = whole_leads step s0 r t ts us rest mid e (Passes h)
whole_leads step s0 r (Asks q k) [] us rest mid e h = cc
whole_leads step s0 r (Asks q k) (t ∷ ts) us rest mid e h = go (matches q t) refl (λ f g. whole_leads step s0 r (k (answer_of t)) ts (t ∷ us) rest mid f g)
  where
    go : (b : Bool) → matches q t ≡ b → (follow (k (answer_of t)) ts ≡ Whole mid rest → Reaches step s0 (t ∷ us) (Amid r (k (answer_of t))) → Led step s0 ts (t ∷ us) rest mid) → Led step s0 (t ∷ ts) us rest mid
    go true f ih = let w = ih (rw f at e) (Says t (answer_of t) (sym (cycle_matched q t f)) h) in record { cycles = w.cycles; reaches = w.reaches; laid = w.laid }
    go false f ih = let d : Wrong ≡ Whole mid rest = rw f at e in cc

-- the front of a step leads to its next ask
pub wants_leads : (step : Proc → Phrase Proc) (s0 r : Proc) (t : Phrase Proc) (ts us : List Ask) (a : Ask) → follow t ts ≡ Wants a → Reaches step s0 us (Amid r t) → (pl : Place) × Reaches step s0 (onto ts us) pl
unfolding follow onto
wants_leads step s0 r (Done b) ts us a e h = cc
wants_leads step s0 r (Faults f) ts us a e h = cc
wants_leads step s0 r (BeginsWork m t) ts us a e h = wants_leads step s0 r t ts us a e (Passes h)
wants_leads step s0 r (Asks q k) [] us a e h = (Amid r (Asks q k), h)
wants_leads step s0 r (Asks q k) (t ∷ ts) us a e h = go (matches q t) refl (λ f g. wants_leads step s0 r (k (answer_of t)) ts (t ∷ us) a f g)
  where
    go : (b : Bool) → matches q t ≡ b → (follow (k (answer_of t)) ts ≡ Wants a → Reaches step s0 (t ∷ us) (Amid r (k (answer_of t))) → (pl : Place) × Reaches step s0 (onto ts (t ∷ us)) pl) → (pl : Place) × Reaches step s0 (onto ts (t ∷ us)) pl
    go true f ih = ih (rw f at e) (Says t (answer_of t) (sym (cycle_matched q t f)) h)
    go false f ih = let d : Wrong ≡ Wants a = rw f at e in cc

-- lawful, and the cycles of each processor lead it somewhere
pub record Walked (step : Proc → Phrase Proc) (first : Contents) (n : ℕ) (start : ℕ → Proc) (older : List Cycle) : Type 0 where
  pub below : AreBelow n older
  pub consistent : Consistent first older
  pub unsplit : Unsplit older
  pub walks : (p : ℕ) → p < n → (pl : Place) × Reaches step (start p) (of p older) pl

walked_before : (step : Proc → Phrase Proc) (first : Contents) (n : ℕ) (start : ℕ → Proc) (x : Cycle) (older : List Cycle) → Walked step first n start (x ∷ older) → Walked step first n start older
unfolding AreBelow Consistent Unsplit
walked_before step first n start x older w = record {
  below = w.below.1;
  consistent = w.consistent.1;
  unsplit = w.unsplit.1;
  walks = λ p hp. elim (test p x.cpu) [
    | inl d ↦
        (let r = w.walks p hp in
        let m = newest step (start p) x.ask (of p older) (of p (x ∷ older)) r.0 (ap (λ y. of y (x ∷ older)) d.0 ∙ of-own x older ∙ ap (λ y. x.ask ∷ of y older) (sym d.0)) r.1 in
        (Amid m.state (Asks m.ask m.next), m.before))
    | inr d ↦ (let r = w.walks p hp in (r.0, subst (λ us. Reaches step (start p) us r.0) (of-other p x older d.0) r.1))
  ];
}

pub walked_front : (step : Proc → Phrase Proc) (first : Contents) (n : ℕ) (start : ℕ → Proc) (K older : List Cycle) → Walked step first n start (onto K older) → Walked step first n start older
unfolding onto
walked_front step first n start [] older w = w
walked_front step first n start (x ∷ K) older w = walked_before step first n start x older (walked_front step first n start K (x ∷ older) w)

decide : (q n : ℕ) → (q < n) ⊎ (n ≤ q)
decide q n = grind arith

pub chosen : (step : Proc → Phrase Proc) (n : ℕ) (start : ℕ → Proc) (older : List Cycle) → ((p : ℕ) → p < n → (pl : Place) × Reaches step (start p) (of p older) pl) → (q : ℕ) → (pl : Place) × (q < n → Reaches step (start q) (of q older) pl)
chosen step n start older w q = elim (decide q n) [ inl h ↦ ((w q h).0, λ i. (w q h).1) | inr h ↦ (Rest (start q), λ i. absurd (omega (arith, h, i))) ]

pub all_below : (n : ℕ) (H older : List Cycle) → AllByRecursion (λ (x : Cycle). x.cpu < n) H → AreBelow n older → AreBelow n (onto H older)
unfolding onto AreBelow
all_below n [] older h b = b
all_below n (x ∷ H) older h b = all_below n H (x ∷ older) h.1 (h.0, b)

-- the places that are led to, chosen
pub place_of : (step : Proc → Phrase Proc) (first : Contents) (n : ℕ) (start : ℕ → Proc) (older : List Cycle) → Walked step first n start older → ℕ → Place
place_of step first n start older w q = (chosen step n start older w.walks q).0

pub walked_placed : (step : Proc → Phrase Proc) (first : Contents) (n : ℕ) (start : ℕ → Proc) (older : List Cycle) → (w : Walked step first n start older) → IsWalked first n step start older (place_of step first n start older w)
unfolding place_of
walked_placed step first n start older w = record { below = w.below; consistent = w.consistent; unsplit = w.unsplit; walks = λ p hp. (chosen step n start older w.walks p).1 hp }

-- what lies below newer cycles is a front of the history
walked_tail : (step : Proc → Phrase Proc) (first : Contents) (n : ℕ) (start : ℕ → Proc) (newer older : List Cycle) → Walked step first n start (newer ++ older) → Walked step first n start older
walked_tail step first n start [] older w = w
walked_tail step first n start (x ∷ newer) older w = walked_tail step first n start newer older (walked_before step first n start x (newer ++ older) w)

pub walked_below : (step : Proc → Phrase Proc) (first : Contents) (n : ℕ) (start : ℕ → Proc) (newer older : List Cycle) (place : ℕ → Place) → IsWalked first n step start (newer ++ older) place → Walked step first n start older
walked_below step first n start newer older place w = walked_tail step first n start newer older (record { below = w.below; consistent = w.consistent; unsplit = w.unsplit; walks = λ p hp. (place p, w.walks p hp) })
