-- In one order there is one run.
use Rattle.std.proofs.Common.{◌≡◌, ℕ, zero, suc, ◌+◌, ◌-◌, ◌<◌, Bool, true, false, cond, eqb, List, [], ◌∷◌, ◌++◌, length, map, filter, refl, sym, ap, ◌∙◌, ◌⊎◌, inl, inr, arith, append_assoc, append-nil, Some, eq-eqb}
use Rattle.std.specs.List.{AllByRecursion, slice_get}
use Rattle.std.proofs.lemmas.Bool.{cases_lt}
use Rattle.std.proofs.lemmas.List.{length-append, reverse-append, ext_get_or}
use Rattle.std.proofs.lemmas.Option.{slice_get-get_or}
use Rattle.m386_base.specs.declared.ask.Ask.{Ask}
use Rattle.m386_base.specs.declared.ask.Cycle.{Cycle}
use Rattle.m386_base.specs.Bus.{IsAsk, cycle_of}
use Rattle.m386_base.specs.Bytes.{bytes_of}
use Rattle.m386_base.specs.Phrase.{answer_of}
use Rattle.m386_base.proofs.Matched.{cycle_matched}
use Rattle.m386_image.specs.declared.image.Image.{Image}
use Rattle.m386_memory.specs.Contents.{Contents, Stand}
use Rattle.m386_memory.specs.History.{Consistent, WellFormed, byte_after, past, cycles_of}
use Rattle.m386_memory.specs.declared.ended.ProcEnd.{ProcEnd}
use Rattle.m386_memory.proofs.Histories.{cycles_of-append}
use Rattle.m386_state.specs.declared.proc.Proc.{Proc}
use Rattle.m386_step.specs.Run.{Run, BeginsWith, start_of, plan_of}
use Rattle.m386_step.specs.Steps.{Runs, Steps}
use Rattle.m386_core.specs.declared.order.Order.{Order}
use Rattle.m386_core.specs.Order.{Naming, named, passed, followed, NamesTo, InOrder}
use Rattle.m386_core.specs.Place.{IsPassedOver, HasFinished}
use Rattle.m386_core.proofs.Keeping.{item}
use Rattle.m386_core.proofs.NextCycles.{OfOneAsk, next_of_one_ask, EndsAlike, runs_end_alike}
use Rattle.m386_core.proofs.Values.{one_answer}

-- ---- lists

-- the last item of a list stands in it, or is what was added
last_or_before : {X : Type 0} (xs : List X) (x : X) (more ys : List X) (y : X) → xs ++ x ∷ more ≡ ys ++ y ∷ [] → ((xs ≡ ys) × (x ≡ y)) ⊎ ((zs : List X) × (ys ≡ xs ++ x ∷ zs))
last_or_before [] x more [] y e = inl (refl, cc)
last_or_before [] x more (z ∷ ys) y e = let i : x ≡ z = cc in inr (ys, ap (λ w. w ∷ ys) (sym i))
last_or_before (w ∷ xs) x more [] y e =
    let l : suc (length (xs ++ x ∷ more)) ≡ 1 = ap length e in
    absurd (omega (arith, l, length-append xs (x ∷ more)))
last_or_before (w ∷ xs) x more (z ∷ ys) y e =
    let i : w ≡ z = cc in
    let j : xs ++ x ∷ more ≡ ys ++ y ∷ [] = cc in
    elim (last_or_before xs x more ys y j) [
      | inl b ↦ inl (rw (i, b.0) refl, b.1)
      | inr b ↦ inr (b.0, rw (sym i, b.1) refl)
    ]

-- lists with the same items
same_items : {X : Type 0} (xs ys : List X) → length xs ≡ length ys → ((i : ℕ) (x y : X) → slice_get xs i ≡ Some x → slice_get ys i ≡ Some y → x ≡ y) → xs ≡ ys
same_items [] [] l h = refl
same_items [] (y ∷ ys) l h = absurd (omega (arith, l))
same_items (x ∷ xs) [] l h = absurd (omega (arith, l))
same_items (x ∷ xs) (y ∷ ys) l h = rw (h 0 x y refl refl, same_items xs ys (omega (arith, l)) (λ i a b e f. h (suc i) a b e f)) refl

all_at : {X : Type 0} (P : X → Type 0) (xs : List X) (x : X) (more : List X) → AllByRecursion P (xs ++ x ∷ more) → P x
all_at P [] x more h = h.0
all_at P (y ∷ xs) x more h = all_at P xs x more h.1

-- ---- one cycle of a history

past_at : (P : List Cycle) (x : Cycle) (more : List Cycle) → past (P ++ x ∷ more) ≡ past more ++ x ∷ past P
past_at P x more = reverse-append P (x ∷ more) ∙ ap (λ (l : List Cycle). l ++ past P) (reverse-append (x ∷ []) more) ∙ append_assoc (past more) (x ∷ []) (past P)

consistent_at : (first : Contents) (newer : List Cycle) (x : Cycle) (older : List Cycle) → Consistent first (newer ++ x ∷ older) → x.ask.write ≡ false → Stand (byte_after first older x.ask.space) (bytes_of x.ask)
unfolding Consistent
consistent_at first [] x older h = h.0
consistent_at first (y ∷ newer) x older h = consistent_at first newer x older h.1

formed_at : (newer : List Cycle) (x : Cycle) (older : List Cycle) → WellFormed (newer ++ x ∷ older) → IsAsk x.ask
unfolding WellFormed
formed_at [] x older h = h.0
formed_at (y ∷ newer) x older h = formed_at newer x older h.1

-- the cycles of a processor around one of its own
own_at : (P : List Cycle) (x : Cycle) (more : List Cycle) (p : ℕ) → x.cpu ≡ p → cycles_of p (P ++ x ∷ more) ≡ cycles_of p P ++ x.ask ∷ cycles_of p more
own_at P x more p e = cycles_of-append p P (x ∷ more) ∙ ap (λ (l : List Ask). cycles_of p P ++ l) (go (eqb x.cpu p) (eq-eqb x.cpu p e))
  where
    go : (b : Bool) → b ≡ true → map (λ (c : Cycle). c.ask) (cond b (x ∷ filter (λ (c : Cycle). eqb c.cpu p) more) (filter (λ (c : Cycle). eqb c.cpu p) more)) ≡ x.ask ∷ cycles_of p more
    go true h = refl
    go false h = cc

-- ---- what two runs begin with

pub one_beginning : (I : Image) (first other : Contents) → BeginsWith I first → BeginsWith I other → first ≡ other
one_beginning I first other a b =
    let memory : first.memory ≡ other.memory = ext_get_or 0 first.memory other.memory (a.size ∙ sym b.size) (λ i lt. let l : i < I.memory = omega (arith, lt, a.size) in a.bytes i l ∙ sym (b.bytes i l)) in
    same_contents memory (a.ports ∙ sym b.ports)
  where
    same_contents : {m m2 p p2 : List ℕ} → m ≡ m2 → p ≡ p2 → ◌≡◌ {A = Contents} (record { memory = m; ports = p }) (record { memory = m2; ports = p2 })
    same_contents e f = rw (e, f) refl

same_cycle : (x y : Cycle) → x.cpu ≡ y.cpu → x.ask ≡ y.ask → x ≡ y
same_cycle x y e f = go e f
  where
    go : {p q : ℕ} {a b : Ask} → p ≡ q → a ≡ b → ◌≡◌ {A = Cycle} (record { cpu = p; ask = a }) (record { cpu = q; ask = b })
    go e f = rw (e, f) refl

write_cycle : (b : Bool) (w : Ask) (v : ℕ) → b ≡ true → w ≡ cond b w (record w { value = v })
write_cycle true w v e = refl
write_cycle false w v e = let d : false ≡ true = e in cc

-- cycles of one ask that were answered what stands at their places
one_cycle : (first : Contents) (older : List Cycle) (x y : Ask) → OfOneAsk x y → IsAsk x → IsAsk y → (x.write ≡ false → Stand (byte_after first older x.space) (bytes_of x)) → (y.write ≡ false → Stand (byte_after first older y.space) (bytes_of y)) → x ≡ y
unfolding cycle_of
one_cycle first older x y o k l g h = go o.wanted.write refl
  where
    x_is : cycle_of o.wanted (answer_of x) ≡ x
    x_is = cycle_matched o.wanted x o.first

    y_is : cycle_of o.wanted (answer_of y) ≡ y
    y_is = cycle_matched o.wanted y o.second

    go : (b : Bool) → o.wanted.write ≡ b → x ≡ y
    go true w =
        let a : o.wanted ≡ x = write_cycle o.wanted.write o.wanted (answer_of x) w ∙ x_is in
        let b : o.wanted ≡ y = write_cycle o.wanted.write o.wanted (answer_of y) w ∙ y_is in
        sym a ∙ b
    go false r =
        let v : answer_of x ≡ answer_of y = one_answer first older o.wanted x r x_is k g ∙ sym (one_answer first older o.wanted y r y_is l h) in
        sym x_is ∙ ap (cycle_of o.wanted) v ∙ y_is

-- ---- one cycle of two runs

module _ (I : Image) (c n : ℕ) (H G : List Cycle) (D E : List (ProcEnd Proc)) (h : Run I c n H D) (g : Run I c n G E) where
  -- two runs that have made the same cycles, and whose next is by the same processor, make the same next one
  pub next_cycle : (P : List Cycle) (x y : Cycle) (xs ys : List Cycle) → H ≡ P ++ x ∷ xs → G ≡ P ++ y ∷ ys → x.cpu ≡ y.cpu → x ≡ y
  next_cycle P x y xs ys hs gs by =
      let p : ℕ = x.cpu in
      let below : p < c = let all : AllByRecursion (λ (z : Cycle). z.cpu < c) (P ++ x ∷ xs) = rw hs at h.below in all_at (λ (z : Cycle). z.cpu < c) P x xs all in
      let d = item D p (omega (arith, h.count, below)) in
      let e = item E p (omega (arith, g.count, below)) in
      let first_runs : Runs (plan_of I p) n (start_of I p) (cycles_of p H) d.0.after d.0.steps = h.walks p d.0 (slice_get-get_or D p d.0 (omega (arith, h.count, below)) ∙ ap Some d.1) in
      let other_runs : Runs (plan_of I p) n (start_of I p) (cycles_of p G) e.0.after e.0.steps = g.walks p e.0 (slice_get-get_or E p e.0 (omega (arith, g.count, below)) ∙ ap Some e.1) in
      let first_steps : Steps d.0.steps (plan_of I p) 0 (start_of I p) (cycles_of p P ++ x.ask ∷ cycles_of p xs) d.0.after = rw (hs, own_at P x xs p refl) at first_runs.steps in
      let other_steps : Steps e.0.steps (plan_of I p) 0 (start_of I p) (cycles_of p P ++ y.ask ∷ cycles_of p ys) e.0.after = rw (gs, own_at P y ys p (sym by)) at other_runs.steps in
      let one = next_of_one_ask d.0.steps e.0.steps (plan_of I p) 0 (start_of I p) d.0.after e.0.after (cycles_of p P) x.ask y.ask (cycles_of p xs) (cycles_of p ys) first_steps other_steps in
      let same_first : g.first ≡ h.first = one_beginning I g.first h.first g.begins h.begins in
      let x_formed : WellFormed (past xs ++ x ∷ past P) = rw (hs, past_at P x xs) at h.history.formed in
      let y_formed : WellFormed (past ys ++ y ∷ past P) = rw (gs, past_at P y ys) at g.history.formed in
      let x_stands : Consistent h.first (past xs ++ x ∷ past P) = rw (hs, past_at P x xs) at h.history.consistent in
      let y_stands : Consistent h.first (past ys ++ y ∷ past P) = rw (gs, past_at P y ys, same_first) at g.history.consistent in
      same_cycle x y by (one_cycle h.first (past P) x.ask y.ask one (formed_at (past xs) x (past P) x_formed) (formed_at (past ys) y (past P) y_formed) (consistent_at h.first (past xs) x (past P) x_stands) (consistent_at h.first (past ys) y (past P) y_stands))

-- ---- the same order

-- these cycles are a front of a history
abbrev IsFront : List Cycle → List Cycle → Type 0
IsFront P H = (rest : List Cycle) × (H ≡ P ++ rest)

-- two orders that have come to the same place
record SamePlace (P Q : List Cycle) (s u : Naming) : Type 0 where
  history : P ≡ Q
  stand : s ≡ u

module _ (I : Image) (c n : ℕ) (order : Order) where
  -- a front of what an order has named
  front_named : (d k : ℕ) (H : List Cycle) (u : Naming) → NamesTo I c n order (d + k) H u → (Q : List Cycle) × (t : Naming) × IsFront Q H × NamesTo I c n order k Q t
  unfolding NamesTo
  front_named zero k H u h = (H, u, ([], sym (append-nil H)), (let i : 0 + k ≡ k = omega arith in rw i at h))
  front_named (suc d) k H u h = go (let i : suc d + k ≡ suc (d + k) = omega arith in rw i at h) (front_named d k)
    where
      go : NamesTo I c n order (suc (d + k)) H u → ((G : List Cycle) (t : Naming) → NamesTo I c n order (d + k) G t → (Q : List Cycle) × (s : Naming) × IsFront Q G × NamesTo I c n order k Q s) → (Q : List Cycle) × (t : Naming) × IsFront Q H × NamesTo I c n order k Q t
      go (before, inl (over, is, b)) ih = ih H before b
      go (before, inr (G, x, e, lives, by, is, b)) ih =
          let r = ih G before b in
          (r.0, r.1, (r.2.0 ++ x ∷ [], e ∙ ap (λ (l : List Cycle). l ++ x ∷ []) r.2.1 ∙ append_assoc r.0 r.2.0 (x ∷ [])), r.3)

  -- the processor of each cycle may go on before it
  lives_at : (k : ℕ) (P : List Cycle) (x : Cycle) (more L : List Cycle) (s : Naming) → L ≡ P ++ x ∷ more → NamesTo I c n order k L s → IsPassedOver I c n P x.cpu → ⊥
  unfolding NamesTo
  lives_at zero P x more L s e h over =
      let l : length (P ++ x ∷ more) ≡ 0 = ap length (sym e ∙ h.0) in
      omega (arith, l, length-append P (x ∷ more))
  lives_at (suc k) P x more L s e (before, inl (passed_by, is, h)) over = lives_at k P x more L before e h over
  lives_at (suc k) P x more L s e (before, inr (G, y, f, lives, by, is, h)) over = elim (last_or_before P x more G y (sym e ∙ f)) [
    | inl b ↦
        let who : x.cpu ≡ named c before = ap (λ (z : Cycle). z.cpu) b.1 ∙ by in
        lives (rw (b.0, who) at over)
    | inr b ↦ lives_at k P x b.0 G before b.1 h over
  ]

  module _ (H G : List Cycle) (D E : List (ProcEnd Proc)) (h : Run I c n H D) (g : Run I c n G E) where
    -- as many that were named have come to the same place
    same_place : (k : ℕ) (P Q : List Cycle) (s u : Naming) → NamesTo I c n order k P s → NamesTo I c n order k Q u → IsFront P H → IsFront Q G → SamePlace P Q s u
    unfolding NamesTo
    same_place zero P Q s u a b p q = record { history = a.0 ∙ sym b.0; stand = a.1 ∙ sym b.1 }
    same_place (suc k) P Q s u (s0, inl (over, is, a)) (u0, inl (over2, is2, b)) p q =
        let r = same_place k P Q s0 u0 a b p q in
        record { history = r.history; stand = is ∙ ap passed r.stand ∙ sym is2 }
    same_place (suc k) P Q s u (s0, inl (over, is, a)) (u0, inr (Q0, y, e, lives, by, is2, b)) p q =
        let r = same_place k P Q0 s0 u0 a b p (y ∷ [] ++ q.0, q.1 ∙ ap (λ (l : List Cycle). l ++ q.0) e ∙ append_assoc Q0 (y ∷ []) q.0) in
        absurd (lives (rw (r.history, r.stand) at over))
    same_place (suc k) P Q s u (s0, inr (P0, x, e, lives, by, is, a)) (u0, inl (over, is2, b)) p q =
        let r = same_place k P0 Q s0 u0 a b (x ∷ [] ++ p.0, p.1 ∙ ap (λ (l : List Cycle). l ++ p.0) e ∙ append_assoc P0 (x ∷ []) p.0) q in
        absurd (lives (rw (r.history, r.stand) over))
    same_place (suc k) P Q s u (s0, inr (P0, x, e, lives, by, is, a)) (u0, inr (Q0, y, f, lives2, by2, is2, b)) p q =
        let hs : H ≡ P0 ++ x ∷ p.0 = p.1 ∙ ap (λ (l : List Cycle). l ++ p.0) e ∙ append_assoc P0 (x ∷ []) p.0 in
        let gs : G ≡ Q0 ++ y ∷ q.0 = q.1 ∙ ap (λ (l : List Cycle). l ++ q.0) f ∙ append_assoc Q0 (y ∷ []) q.0 in
        let r = same_place k P0 Q0 s0 u0 a b (x ∷ p.0, hs) (y ∷ q.0, gs) in
        let same_cpu : x.cpu ≡ y.cpu = by ∙ ap (named c) r.stand ∙ sym by2 in
        let gs0 : G ≡ P0 ++ y ∷ q.0 = rw (sym r.history) at gs in
        let same : x ≡ y = next_cycle I c n H G D E h g P0 x y p.0 q.0 hs gs0 same_cpu in
        record { history = e ∙ rw (r.history, same) refl ∙ sym f; stand = is ∙ ap followed r.stand ∙ sym is2 }

    -- a run that is a front of another one is that one
    no_more : (m : ℕ) (u : Naming) (rest : List Cycle) → NamesTo I c n order m G u → G ≡ H ++ rest → H ≡ G
    no_more m u [] b e = sym (e ∙ append-nil H)
    no_more m u (x ∷ rest) b e =
        let all : AllByRecursion (λ (z : Cycle). z.cpu < c) (H ++ x ∷ rest) = rw e at g.below in
        let below : x.cpu < c = all_at (λ (z : Cycle). z.cpu < c) H x rest all in
        let d = item D x.cpu (omega (arith, h.count, below)) in
        let done : HasFinished I n H x.cpu = (d.0, h.walks x.cpu d.0 (slice_get-get_or D x.cpu d.0 (omega (arith, h.count, below)) ∙ ap Some d.1)) in
        absurd (lives_at m H x rest G u e b (inl done))

    shorter_same : (k d : ℕ) (s u : Naming) → NamesTo I c n order k H s → NamesTo I c n order (d + k) G u → H ≡ G
    shorter_same k d s u a b =
        let f = front_named d k G u b in
        let r = same_place k H f.0 s f.1 a f.3 ([], sym (append-nil H)) f.2 in
        no_more (d + k) u f.2.0 b (f.2.1 ∙ ap (λ (l : List Cycle). l ++ f.2.0) (sym r.history))

-- ---- the law

pub one_history : (I : Image) (c n : ℕ) (order : Order) (H G : List Cycle) (D E : List (ProcEnd Proc)) → InOrder I c n order H → Run I c n H D → InOrder I c n order G → Run I c n G E → H ≡ G
one_history I c n order H G D E (s, (k, a)) h (u, (m, b)) g = elim (cases_lt k m) [
  | inl lt ↦ shorter_same I c n order H G D E h g k (m - k) s u a (let i : m ≡ m - k + k = omega arith in rw i at b)
  | inr le ↦ sym (shorter_same I c n order G H E D g h m (k - m) u s b (let i : k ≡ k - m + m = omega arith in rw i at a))
]

same_end : (d e : ProcEnd Proc) → EndsAlike d.after e.after d.steps e.steps → d ≡ e
same_end d e h = go h.same_state h.same_steps
  where
    go : {p q : Proc} {k m : ℕ} → p ≡ q → k ≡ m → ◌≡◌ {A = ProcEnd Proc} (record { after = p; steps = k }) (record { after = q; steps = m })
    go e f = rw (e, f) refl

-- two runs with one history end in the same way
pub one_ending : (I : Image) (c n : ℕ) (H : List Cycle) (D E : List (ProcEnd Proc)) → Run I c n H D → Run I c n H E → D ≡ E
one_ending I c n H D E h g = same_items D E (h.count ∙ sym g.count) (λ p d e is is2. same_end d e (runs_end_alike (plan_of I p) n (start_of I p) d.after e.after (cycles_of p H) d.steps e.steps (h.walks p d is) (g.walks p e is2)))

pub same_ends : (I : Image) (c n : ℕ) (order : Order) (H G : List Cycle) (D E : List (ProcEnd Proc)) → InOrder I c n order H → Run I c n H D → InOrder I c n order G → Run I c n G E → D ≡ E
same_ends I c n order H G D E a h b g =
    let same : Run I c n H E = rw (sym (one_history I c n order H G D E a h b g)) at g in
    one_ending I c n H D E h same
