-- What a phrase comes to over values is how the cycles are judged that were answered them.
use Rattle.std.proofs.Common.{◌≡◌, ◌↔◌, ℕ, ◌+◌, true, false, List, [], ◌∷◌, ◌++◌, length, refl, ◌∙◌, ap, arith, cond, Bool, bit_and}
use Rattle.std.specs.Int.Bits.{and_zero_l}
use Rattle.m386_base.specs.declared.ask.Ask.{Ask}
use Rattle.m386_base.specs.Bus.{mask, cycle_of, IsEnabled, empty_view}
use Rattle.m386_base.specs.Phrase.{Phrase, Done, Faults, Asks, Begins, ◌>>=◌, follow, follow->>=, after, Judgement, Whole, Wants, answer_of, one}
use Rattle.m386_base.specs.Replay.{Replay, Found, FoundFault, Lacks, answer_told, replay, AreTold}
use Rattle.m386_base.proofs.Masks.{and_twice}
use Rattle.m386_base.proofs.Phrases.{completes_one}
use Rattle.m386_base.proofs.Replays.{answer_told-cycle_of, replay_whole, replay_wants}

-- the cycle that is made of an ask, where it is told this value
abbrev cycle_told : Ask → ℕ → Ask
cycle_told q v = cycle_of q (answer_told q v)

told-none : (q : Ask) (v : ℕ) → q.write ≡ true → answer_told q v ≡ 0
unfolding answer_told
told-none q v w = rw w refl

told-enabled : (q : Ask) (v : ℕ) → IsEnabled q.enables (answer_told q v)
unfolding answer_told
told-enabled q v = go q.write
  where
    go : (b : Bool) → IsEnabled q.enables (cond b 0 (bit_and v (mask q.enables)))
    go true = and_zero_l (mask q.enables)
    go false = and_twice v (mask q.enables)

-- it is judged as the whole of its ask
one_told : (q : Ask) (v : ℕ) (rest : List Ask) → follow (one q) (cycle_told q v ∷ rest) ≡ Whole (answer_told q v) rest
one_told q v rest =
    let said = completes_one {q = q} {keep = false} {old = empty_view} {new = record empty_view { cycles = cycle_told q v ∷ [] }} {v = answer_told q v} (record { view = refl; none = told-none q v; value = told-enabled q v }) in
    ap (λ ts. follow (one q) (ts ++ rest)) said.cycles ∙ said.whole rest

-- and the cycles after it as what the phrase asks next
asks_told : {A : Type 0} (q : Ask) (k : ℕ → Phrase A) (v : ℕ) (ts : List Ask) → follow (Asks q k) (cycle_told q v ∷ ts) ≡ follow (k (answer_told q v)) ts
unfolding ◌>>=◌
asks_told {A = A} q k v ts =
    let R : Judgement ℕ → Judgement A = λ j. after j (λ a rest. follow (k a) rest) in
    follow->>= (one q) k (cycle_told q v ∷ ts) ∙ ap R (one_told q v ts)

answer_is_told : (q : Ask) (v : ℕ) → answer_of (cycle_told q v) ≡ answer_told (cycle_told q v) v
unfolding answer_told
answer_is_told q v = answer_told-cycle_of q v (answer_told q v) refl

-- the answers to n cycles that are judged so are the first n of these values
abbrev Judged : {A : Type 0} → Phrase A → List ℕ → ℕ → Judgement A → Type 0
Judged t vs n verdict = (ts : List Ask) × AreTold ts vs × (length ts ≡ n) × (follow t ts ≡ verdict)

one_more_told : {A : Type 0} (q : Ask) (k : ℕ → Phrase A) (v : ℕ) (vs : List ℕ) (n : ℕ) (verdict : Judgement A) → Judged (k (answer_told q v)) vs n verdict → Judged (Asks q k) (v ∷ vs) (n + 1) verdict
one_more_told q k v vs n verdict h =
    (cycle_told q v ∷ h.0, (answer_is_told q v, h.1), (let l : length h.0 ≡ n = h.2 in omega arith), asks_told q k v h.0 ∙ h.3)

found_judged : {A : Type 0} (t : Phrase A) (a : A) (n : ℕ) (vs : List ℕ) → replay t vs ≡ Found a n → Judged t vs n (Whole a [])
unfolding follow replay
found_judged (Done b) a n vs e =
    let i : b ≡ a = cc in
    let j : 0 ≡ n = cc in
    ([], tt, j, ap (λ x. Whole x []) i)
found_judged (Faults f) a n vs e = cc
found_judged (Begins m t) a n vs e = found_judged t a n vs e
found_judged (Asks q k) a n [] e = cc
found_judged {A = A} (Asks q k) a n (v ∷ vs) e = go (replay (k (answer_told q v)) vs) refl (λ m. found_judged (k (answer_told q v)) a m vs)
  where
    go : (r : Replay A) → replay (k (answer_told q v)) vs ≡ r → ((m : ℕ) → replay (k (answer_told q v)) vs ≡ Found a m → Judged (k (answer_told q v)) vs m (Whole a [])) → Judged (Asks q k) (v ∷ vs) n (Whole a [])
    go (Found b m) f ih =
        let g : Found b (m + 1) ≡ Found a n = rw f at e in
        let i : b ≡ a = cc in
        let j : m + 1 ≡ n = cc in
        rw (← j) (one_more_told q k v vs m (Whole a []) (ih m (f ∙ ap (λ x. Found x m) i)))
    go (FoundFault x m) f ih = let g : FoundFault x (m + 1) ≡ Found a n = rw f at e in cc
    go (Lacks p) f ih = let g : Lacks p ≡ Found a n = rw f at e in cc

lacks_judged : {A : Type 0} (t : Phrase A) (p : Ask) (vs : List ℕ) → replay t vs ≡ Lacks p → Judged t vs (length vs) (Wants p)
unfolding follow replay
lacks_judged (Done b) p vs e = cc
lacks_judged (Faults f) p vs e = cc
lacks_judged (Begins m t) p vs e = lacks_judged t p vs e
lacks_judged (Asks q k) p [] e = let i : q ≡ p = cc in ([], tt, refl, ap Wants i)
lacks_judged {A = A} (Asks q k) p (v ∷ vs) e = go (replay (k (answer_told q v)) vs) refl (lacks_judged (k (answer_told q v)) p vs)
  where
    go : (r : Replay A) → replay (k (answer_told q v)) vs ≡ r → (replay (k (answer_told q v)) vs ≡ Lacks p → Judged (k (answer_told q v)) vs (length vs) (Wants p)) → Judged (Asks q k) (v ∷ vs) (length (v ∷ vs)) (Wants p)
    go (Found b m) f ih = let g : Found b (m + 1) ≡ Lacks p = rw f at e in cc
    go (FoundFault x m) f ih = let g : FoundFault x (m + 1) ≡ Lacks p = rw f at e in cc
    go (Lacks r) f ih =
        let g : Lacks r ≡ Lacks p = rw f at e in
        let i : length vs + 1 ≡ length (v ∷ vs) = omega arith in
        rw (← i) (one_more_told q k v vs (length vs) (Wants p) (ih (f ∙ g)))

-- a phrase that is whole over values, and the cycles that were answered them
pub found_is_whole : {A : Type 0} (t : Phrase A) (a : A) (n : ℕ) (vs : List ℕ) → (replay t vs ≡ Found a n) ↔ Judged t vs n (Whole a [])
found_is_whole t a n vs = (found_judged t a n vs, λ h. replay_whole t a h.0 vs h.1 h.3 ∙ ap (Found a) h.2)

-- a phrase that asks for more than the values, and the cycles that were answered them
pub lacks_is_wants : {A : Type 0} (t : Phrase A) (q : Ask) (vs : List ℕ) → (replay t vs ≡ Lacks q) ↔ Judged t vs (length vs) (Wants q)
lacks_is_wants t q vs = (lacks_judged t q vs, λ h. replay_wants t q h.0 vs h.1 h.2 h.3)
