-- What was added on a bus that gives listed values is the phrase over these values.
use Rattle.std.proofs.Common.{◌≡◌, ℕ, ◌<◌, Bool, true, false, List, [], ◌∷◌, ◌++◌, length, get_or, refl, sym, ◌∙◌, ap, arith, cond, ◌&&◌, eqb, eq-eqb, bit_and}
use Rattle.std.proofs.lemmas.Bool.{eqb-true}
use Rattle.m386_base.specs.declared.ask.Ask.{Ask}
use Rattle.m386_base.specs.Bus.{mask, cycle_of}
use Rattle.m386_base.specs.Phrase.{Phrase, Done, Faults, Asks, Begins, follow, Whole, Wants, Wrong, matches, answer_of, agree, space_number}
use Rattle.m386_base.specs.Replay.{answer_told, Found, Lacks, one_more, replay, AreTold, are_told}

and-l : (a b : Bool) → a && b ≡ true → a ≡ true
and-l true b h = refl
and-l false b h = h

and-r : (a b : Bool) → a && b ≡ true → b ≡ true
and-r true b h = h
and-r false true h = refl
and-r false false h = h

agree-is : (a b : Bool) → agree a b ≡ true → a ≡ b
agree-is true b h = sym h
agree-is false true h = cc
agree-is false false h = refl

-- a cycle that matches an ask is answer_told as the ask is
matches-answer_told : (q t : Ask) (v : ℕ) → matches q t ≡ true → answer_told t v ≡ answer_told q v
unfolding matches answer_told
matches-answer_told q t v h =
    let w : q.write ≡ t.write = agree-is q.write t.write (and-r (eqb (space_number q.space) (space_number t.space)) _ (and-l _ _ (and-l _ _ (and-l _ _ (and-l _ _ (and-l _ _ (and-l _ _ h))))))) in
    let k : eqb q.enables t.enables ≡ true = and-r _ _ (and-l _ _ h) in
    let e : q.enables ≡ t.enables = grind (arith, k) in
    rw (w, e) refl

pub replay_whole : {A : Type 0} (t : Phrase A) (a : A) (ts : List Ask) (vs : List ℕ) → AreTold ts vs → follow t ts ≡ Whole a [] → replay t vs ≡ Found a (length ts)
unfolding follow replay
replay_whole (Done b) a [] vs h e = let i : b ≡ a = cc in ap (λ x. Found x 0) i
replay_whole (Done b) a (x ∷ ts) vs h e = cc
replay_whole (Faults f) a ts vs h e = cc
replay_whole (Begins m t) a ts vs h e = replay_whole t a ts vs h e
replay_whole (Asks q k) a [] vs h e = cc
replay_whole (Asks q k) a (t ∷ ts) [] h e = absurd h
replay_whole {A = A} (Asks q k) a (t ∷ ts) (v ∷ vs) h e = go (matches q t) refl (replay_whole (k (answer_of t)) a ts vs h.1)
  where
    go : (b : Bool) → matches q t ≡ b → (follow (k (answer_of t)) ts ≡ Whole a [] → replay (k (answer_of t)) vs ≡ Found a (length ts)) → one_more (replay (k (answer_told q v)) vs) ≡ Found a (length (t ∷ ts))
    go true f ih =
        let i : answer_of t ≡ answer_told q v = h.0 ∙ matches-answer_told q t v f in
        rw (← i, ih (rw f at e)) (ap (Found a) (omega arith))
    go false f ih = let d : Wrong ≡ Whole a [] = rw f at e in cc

pub replay_wants : {A : Type 0} (t : Phrase A) (q : Ask) (ts : List Ask) (vs : List ℕ) → AreTold ts vs → length ts ≡ length vs → follow t ts ≡ Wants q → replay t vs ≡ Lacks q
unfolding follow replay
replay_wants (Done b) q ts vs h l e = cc
replay_wants (Faults f) q ts vs h l e = cc
replay_wants (Begins m t) q ts vs h l e = replay_wants t q ts vs h l e
replay_wants (Asks p k) q [] [] h l e = let i : p ≡ q = cc in ap Lacks i
replay_wants (Asks p k) q [] (v ∷ vs) h l e = absurd (omega arith)
replay_wants (Asks p k) q (t ∷ ts) [] h l e = absurd h
replay_wants {A = A} (Asks p k) q (t ∷ ts) (v ∷ vs) h l e = go (matches p t) refl (replay_wants (k (answer_of t)) q ts vs h.1 (omega arith))
  where
    go : (b : Bool) → matches p t ≡ b → (follow (k (answer_of t)) ts ≡ Wants q → replay (k (answer_of t)) vs ≡ Lacks q) → one_more (replay (k (answer_told p v)) vs) ≡ Lacks q
    go true f ih =
        let i : answer_of t ≡ answer_told p v = h.0 ∙ matches-answer_told p t v f in
        rw (← i, ih (rw f at e)) refl
    go false f ih = let d : Wrong ≡ Wants q = rw f at e in cc

-- a cycle that matches an ask is joined as the ask is
pub matches-joined : (q t : Ask) → matches q t ≡ true → q.joined ≡ t.joined
unfolding matches
matches-joined q t h = agree-is q.joined t.joined (and-r _ _ (and-l _ _ (and-l _ _ (and-l _ _ (and-l _ _ (and-l _ _ h))))))

pub AreTold-from_test : (ts : List Ask) (vs : List ℕ) → are_told ts vs ≡ true → AreTold ts vs
unfolding are_told
AreTold-from_test [] vs h = tt
AreTold-from_test (t ∷ ts) [] h = absurd (let e : false ≡ true = h in cc)
AreTold-from_test (t ∷ ts) (v ∷ vs) h = (eqb-true _ _ (and-l _ _ h), AreTold-from_test ts vs (and-r _ _ h))

both : (a b : Bool) → a ≡ true → b ≡ true → a && b ≡ true
both true b h k = k
both false b h k = h

-- one more cycle, answer_told the next value
pub are_told-more : (ts : List Ask) (vs : List ℕ) (t : Ask) → are_told ts vs ≡ true → length ts < length vs → answer_of t ≡ answer_told t (get_or vs (length ts) 0) → are_told (ts ++ t ∷ []) vs ≡ true
unfolding are_told
are_told-more [] [] t h l e = absurd (omega arith)
are_told-more [] (v ∷ vs) t h l e = both _ _ (eq-eqb _ _ e) refl
are_told-more (x ∷ ts) [] t h l e = h
are_told-more (x ∷ ts) (v ∷ vs) t h l e = both _ _ (and-l _ _ h) (are_told-more ts vs t (and-r _ _ h) (omega arith) e)

pub answer_told-cycle_of : (q : Ask) (v : ℕ) (x : ℕ) → x ≡ cond q.write 0 (bit_and v (mask q.enables)) → answer_of (cycle_of q x) ≡ answer_told (cycle_of q x) v
unfolding answer_of cycle_of answer_told
answer_told-cycle_of q v x h = go q.write refl
  where
    go : (b : Bool) → q.write ≡ b → answer_of (cycle_of q x) ≡ answer_told (cycle_of q x) v
    go true w = simp (w)
    go false w = simp (w) (rw w at h)

pub ruleset probing = (are_told-more, answer_told-cycle_of)
