-- Exclusion over whole histories.
use Rattle.std.proofs.Common.{◌≡◌, ◌≢◌, ℕ, zero, suc, ◌<◌, ◌≤◌, ◌==◌, ◌||◌, true, false, List, [], ◌∷◌, Option, if◌then◌else◌, refl, sym, ap, ◌∙◌, subst, arith, inl, inr}
use Rattle.m386_base.specs.declared.ask.Ask.{Ask}
use Rattle.m386_base.specs.declared.ask.Cycle.{Cycle}
use Rattle.m386_base.specs.Bus.{cycle_of}
use Rattle.m386_base.specs.Laws.{Turns}
use Rattle.m386_base.specs.Phrase.{Phrase, Attempt, Done, Asks, Begins as BeginsWork}
use Rattle.m386_memory.specs.Contents.{Contents}
use Rattle.m386_memory.specs.History.{Consistent, Unsplit}
use Rattle.m386_stages.specs.Stages.{Stage, Turn, Hears, Stores, Touches, Pops_set, Claims, Claims_start, Claims_ltr, Saves, Saves_flags, Saves_back, Links_whole, Links_low, Links_high, Releases, Backs, Backs_on, Returns, Loads_flags, on, begins, is_lgdt}
use Rattle.m386_exclusion.proofs.After.{at_here, at_others}
use Rattle.m386_exclusion.proofs.Counts.{test, test-true, test-false}
use Rattle.m386_exclusion.proofs.Invariant.{cycle_next, step_next, starts, rest_here, rest_others}
use Rattle.m386_exclusion.specs.Change.{after}
use Rattle.m386_exclusion.specs.Histories.{Place, Rest, Amid, Reaches, Begins, Enters, Says, Passes, Leaves, of, AreBelow, AreJudged, IsWalked, StepLaw, IsStart, Settles, Settled, Stands, NoEnd, asked}
use Rattle.m386_exclusion.specs.Invariant.{rested}
use Rattle.m386_exclusion.specs.World.{Setting, World, IsTidy, gdt_reg}
use Rattle.m386_state.specs.declared.proc.Proc.{Proc}
use Rattle.m386_state.specs.declared.segment.TableReg.{TableReg}

-- LGDT is seen only by a cycle of it
lgdt_of : (g g2 h : Stage) → g2 ≡ h → h.lgdt ≡ false → g2.lgdt ≡ false
lgdt_of g g2 h e l = ap (λ (s : Stage). s.lgdt) e ∙ l

lgdt_read : (c : Ask) (g : Stage) → is_lgdt c.role ≡ false → g.lgdt ≡ false → is_lgdt c.role || g.lgdt ≡ false
lgdt_read c g n l = rw (n, l) refl

turn_lgdt : (gdt : TableReg) (g g2 : Stage) (c : Ask) → is_lgdt c.role ≡ false → g.lgdt ≡ false → Turn gdt g c g2 → g2.lgdt ≡ false
turn_lgdt gdt g g2 c n l (Hears w e) = lgdt_of g g2 _ e (lgdt_read c g n l)
turn_lgdt gdt g g2 c n l (Stores w r e) = lgdt_of g g2 _ e l
turn_lgdt gdt g g2 c n l (Touches s b m h i w e) = lgdt_of g g2 _ e l
turn_lgdt gdt g g2 c n l (Pops_set tr nt p w r q e) = lgdt_of g g2 _ e (lgdt_read c g n l)
turn_lgdt gdt g g2 c n l (Claims k nt o t p q e) = lgdt_of g g2 _ e l
turn_lgdt gdt g g2 c n l (Claims_start tr nt t p q e) = lgdt_of g g2 _ e l
turn_lgdt gdt g g2 c n l (Claims_ltr tr nt t p q e) = lgdt_of g g2 _ e l
turn_lgdt gdt g g2 c n l (Saves k nt z o t p w h e) = lgdt_of g g2 _ e l
turn_lgdt gdt g g2 c n l (Saves_flags k nt z o t b p w h i f e) = lgdt_of g g2 _ e l
turn_lgdt gdt g g2 c n l (Saves_back o bs p w h e) = lgdt_of g g2 _ e l
turn_lgdt gdt g g2 c n l (Links_whole nt o t p w b e) = lgdt_of g g2 _ e l
turn_lgdt gdt g g2 c n l (Links_low nt o t p w b e) = lgdt_of g g2 _ e l
turn_lgdt gdt g g2 c n l (Links_high o t p w b e) = lgdt_of g g2 _ e l
turn_lgdt gdt g g2 c n l (Releases nt o t p q e) = lgdt_of g g2 _ e l
turn_lgdt gdt g g2 c n l (Backs o p w r e) = lgdt_of g g2 _ e (lgdt_read c g n l)
turn_lgdt gdt g g2 c n l (Backs_on o bs p w r e) = lgdt_of g g2 _ e (lgdt_read c g n l)
turn_lgdt gdt g g2 c n l (Returns o t bs lo hi p h i q m b r e) = lgdt_of g g2 _ e l
turn_lgdt gdt g g2 c n l (Loads_flags t b p w r h e) = lgdt_of g g2 _ e (lgdt_read c g n l)

-- one processor is elsewhere
abbrev pub moved_to : (ℕ → Place) → ℕ → Place → ℕ → Place
moved_to place p pl q = if q == p then pl else place q

pub to_here : (place : ℕ → Place) (p : ℕ) (pl : Place) → moved_to place p pl p ≡ pl
to_here place p pl = rw (test-true p p refl) refl

pub to_there : (place : ℕ → Place) (p q : ℕ) (pl : Place) → q ≢ p → moved_to place p pl q ≡ place q
to_there place p q pl d = rw (test-false q p d) refl

-- Between two cycles a processor goes on: the stages of the others stay.
still : (I : Setting) (n p : ℕ) (older : List Cycle) (place : ℕ → Place) (a b : Place) → p < n → Settled I n older (moved_to place p a) → ((g : Stage) → Settles I g a → Settles I g b) → Settled I n older (moved_to place p b)
still I n p older place a b hp s f = record {
  at = s.at;
  settles = λ q hq. elim (test q p) [
    | inl d ↦ subst (λ y. Settles I (s.at y) (moved_to place p b y)) (sym d.0) (subst (Settles I (s.at p)) (sym (to_here place p b)) (f (s.at p) (subst (Settles I (s.at p)) (to_here place p a) (s.settles p hp))))
    | inr d ↦ subst (Settles I (s.at q)) (sym (to_there place p q b d.0)) (subst (Settles I (s.at q)) (to_there place p q a d.0) (s.settles q hq))
  ];
  keeps = s.keeps;
}

enter : (I : Setting) (step : Proc → Phrase Proc) (g : Stage) (s : Proc) (request : Option ℕ) → StepLaw step → Settles I g (Rest s) → Settles I g (Amid (asked s request) (step (asked s request)))
enter I step g s request law h =
    let r : Proc = asked s request in
    let own : Turns (on s.gdtr) (Stands r) NoEnd (begins s) (step r) = law r in
    let placed : Turns (on (gdt_reg I)) (Stands r) NoEnd (begins s) (step r) = subst (λ t. Turns (on t) (Stands r) NoEnd (begins s) (step r)) h.1 own in
    (h.1, ap (λ (x : Stage). x.lgdt) h.0, subst (λ (x : Stage). Turns (on (gdt_reg I)) (Stands r) NoEnd x (step r)) (sym h.0) placed)

-- a step ends
leave : (I : Setting) (n p : ℕ) (older : List Cycle) (place : ℕ → Place) (s a : Proc) → IsTidy I → p < n → Settled I n older (moved_to place p (Amid s (Done a))) → Settled I n older (moved_to place p (Rest a))
unfolding Turns
leave I n p older place s a tidy hp v =
    let G : World = record { cycles = older; at = v.at } in
    let h : Settles I (v.at p) (Amid s (Done a)) = subst (Settles I (v.at p)) (to_here place p (Amid s (Done a))) (v.settles p hp) in
    let st : Stands s (v.at p) a = h.2 in
    let gdtr : a.gdtr ≡ (gdt_reg I) = elim st.gdtr [ inl e ↦ e ∙ h.0 | inr e ↦ absurd (let f : false ≡ true = sym h.1 ∙ e in cc) ] in
    record {
      at = (rested G p a).at;
      settles = λ q hq. elim (test q p) [
        | inl d ↦ subst (λ y. Settles I ((rested G p a).at y) (moved_to place p (Rest a) y)) (sym d.0) (subst (Settles I ((rested G p a).at p)) (sym (to_here place p (Rest a))) (rest_here G p a, gdtr))
        | inr d ↦ subst (Settles I ((rested G p a).at q)) (sym (to_there place p q (Rest a) d.0)) (subst (λ (g : Stage). Settles I g (place q)) (sym (rest_others G p a q d.0)) (subst (Settles I (v.at q)) (to_there place p q (Amid s (Done a)) d.0) (v.settles q hq)))
      ];
      keeps = step_next I n p G a tidy hp st.phase v.keeps;
    }

-- the newest cycle was made of an ask
pub record Newest (step : Proc → Phrase Proc) (s0 : Proc) (t : Ask) (ts : List Ask) : Type 0 where
  pub state : Proc
  pub ask : Ask
  pub next : ℕ → Phrase Proc
  pub value : ℕ
  pub made : t ≡ cycle_of ask value
  pub before : Reaches step s0 ts (Amid state (Asks ask next))

pub newest : (step : Proc → Phrase Proc) (s0 : Proc) (t : Ask) (ts us : List Ask) (pl : Place) → us ≡ t ∷ ts → Reaches step s0 us pl → Newest step s0 t ts
newest step s0 t ts us pl e Begins = absurd cc
newest step s0 t ts us pl e (Enters {ts = vs} {s = s} r q) = newest step s0 t ts vs (Rest s) e r
newest step s0 t ts us pl e (Says {ts = vs} {s = s} {q = q} {k = k} t2 v f r) =
    let et : t2 ≡ t = cc in
    let es : vs ≡ ts = cc in
    record { state = s; ask = q; next = k; value = v; made = sym et ∙ f; before = subst (λ w. Reaches step s0 w (Amid s (Asks q k))) es r }
newest step s0 t ts us pl e (Passes {ts = vs} {s = s} {m = m} {t = u} r) = newest step s0 t ts vs (Amid s (BeginsWork m u)) e r
newest step s0 t ts us pl e (Leaves {ts = vs} {s = s} {after = a} r) = newest step s0 t ts vs (Amid s (Done a)) e r

pub of-own : (c : Cycle) (G : List Cycle) → of c.cpu (c ∷ G) ≡ c.ask ∷ of c.cpu G
unfolding of
of-own c G = rw (test-true c.cpu c.cpu refl) refl

pub of-other : (p : ℕ) (c : Cycle) (G : List Cycle) → p ≢ c.cpu → of p (c ∷ G) ≡ of p G
unfolding of
of-other p c G d = rw (test-false c.cpu p (λ e. d (sym e))) refl

pass : (I : Setting) (g : Stage) (s : Proc) (m : Attempt) (t : Phrase Proc) → Settles I g (Amid s (BeginsWork m t)) → Settles I g (Amid s t)
unfolding Turns
pass I g s m t h = h

-- a processor goes on without a cycle, from the start
first : (I : Setting) (n p : ℕ) (step : Proc → Phrase Proc) (s0 : Proc) (place : ℕ → Place) (us : List Ask) (pl : Place) → IsTidy I → StepLaw step → p < n → us ≡ [] → Reaches step s0 us pl → Settled I n [] (moved_to place p (Rest s0)) → Settled I n [] (moved_to place p pl)
first I n p step s0 place us pl tidy law hp e Begins v = v
first I n p step s0 place us pl tidy law hp e (Enters {ts = vs} {s = s} r q) v = still I n p [] place (Rest s) (Amid (asked s q) (step (asked s q))) hp (first I n p step s0 place vs (Rest s) tidy law hp e r v) (λ g h. enter I step g s q law h)
first I n p step s0 place us pl tidy law hp e (Says t w f r) v = absurd cc
first I n p step s0 place us pl tidy law hp e (Passes {ts = vs} {s = s} {m = m} {t = t} r) v = still I n p [] place (Amid s (BeginsWork m t)) (Amid s t) hp (first I n p step s0 place vs (Amid s (BeginsWork m t)) tidy law hp e r v) (λ g h. pass I g s m t h)
first I n p step s0 place us pl tidy law hp e (Leaves {ts = vs} {s = s} {after = a} r) v = leave I n p [] place s a tidy hp (first I n p step s0 place vs (Amid s (Done a)) tidy law hp e r v)

-- a cycle is made
made : (I : Setting) (n : ℕ) (x : Cycle) (older : List Cycle) (place : ℕ → Place) (s : Proc) (q : Ask) (k : ℕ → Phrase Proc) (v : ℕ) → IsTidy I → x.cpu < n → Consistent I.first (x ∷ older) → Unsplit (x ∷ older) → AreJudged I (x ∷ older) → x.ask ≡ cycle_of q v → Settled I n older (moved_to place x.cpu (Amid s (Asks q k))) → Settled I n (x ∷ older) (moved_to place x.cpu (Amid s (k v)))
unfolding Turns AreJudged
made I n x older place s q k v tidy hp c u a f w =
    let p = x.cpu in
    let G : World = record { cycles = older; at = w.at } in
    let h : Settles I (w.at p) (Amid s (Asks q k)) = subst (Settles I (w.at p)) (to_here place p (Amid s (Asks q k))) (w.settles p hp) in
    let t = h.2 v in
    let g2 : Stage = t.0 in
    let turn : Turn (gdt_reg I) (w.at p) x.ask g2 = subst (λ y. Turn (gdt_reg I) (w.at p) y g2) (sym f) t.1 in
    let new : Settles I g2 (Amid s (k v)) = (h.0, turn_lgdt (gdt_reg I) (w.at p) g2 x.ask a.0.lgdt h.1 turn, t.2) in
    record {
      at = (after G x g2).at;
      settles = λ y hy. elim (test y p) [
        | inl d ↦ subst (λ z. Settles I ((after G x g2).at z) (moved_to place p (Amid s (k v)) z)) (sym d.0) (subst (Settles I ((after G x g2).at p)) (sym (to_here place p (Amid s (k v)))) (subst (λ (g : Stage). Settles I g (Amid s (k v))) (sym (at_here G x g2)) new))
        | inr d ↦ subst (Settles I ((after G x g2).at y)) (sym (to_there place p y (Amid s (k v)) d.0)) (subst (λ (g : Stage). Settles I g (place y)) (sym (at_others G x g2 y d.0)) (subst (Settles I (w.at y)) (to_there place p y (Amid s (Asks q k)) d.0) (w.settles y hy)))
      ];
      keeps = cycle_next I n x G g2 tidy hp c u a.0 turn w.keeps;
    }

-- a processor makes its newest cycle, and goes on
advance : (I : Setting) (n : ℕ) (x : Cycle) (older : List Cycle) (step : Proc → Phrase Proc) (s0 : Proc) (place : ℕ → Place) (us : List Ask) (pl : Place) → IsTidy I → StepLaw step → x.cpu < n → Consistent I.first (x ∷ older) → Unsplit (x ∷ older) → AreJudged I (x ∷ older) → us ≡ x.ask ∷ of x.cpu older → Reaches step s0 us pl
    → ((b : Place) → Reaches step s0 (of x.cpu older) b → Settled I n older (moved_to place x.cpu b)) → Settled I n (x ∷ older) (moved_to place x.cpu pl)
advance I n x older step s0 place us pl tidy law hp c u a e Begins old = absurd cc
advance I n x older step s0 place us pl tidy law hp c u a e (Enters {ts = vs} {s = s} r q) old = still I n x.cpu (x ∷ older) place (Rest s) (Amid (asked s q) (step (asked s q))) hp (advance I n x older step s0 place vs (Rest s) tidy law hp c u a e r old) (λ g h. enter I step g s q law h)
advance I n x older step s0 place us pl tidy law hp c u a e (Says {ts = vs} {s = s} {q = q} {k = k} t v f r) old =
    let et : t ≡ x.ask = cc in
    let es : vs ≡ of x.cpu older = cc in
    made I n x older place s q k v tidy hp c u a (sym et ∙ f) (old (Amid s (Asks q k)) (subst (λ w. Reaches step s0 w (Amid s (Asks q k))) es r))
advance I n x older step s0 place us pl tidy law hp c u a e (Passes {ts = vs} {s = s} {m = m} {t = t} r) old = still I n x.cpu (x ∷ older) place (Amid s (BeginsWork m t)) (Amid s t) hp (advance I n x older step s0 place vs (Amid s (BeginsWork m t)) tidy law hp c u a e r old) (λ g h. pass I g s m t h)
advance I n x older step s0 place us pl tidy law hp c u a e (Leaves {ts = vs} {s = s} {after = b} r) old = leave I n x.cpu (x ∷ older) place s b tidy hp (advance I n x older step s0 place vs (Amid s (Done b)) tidy law hp c u a e r old)

-- the same places, named otherwise
same_places : (I : Setting) (n : ℕ) (older : List Cycle) (a b : ℕ → Place) → ((p : ℕ) → p < n → a p ≡ b p) → Settled I n older a → Settled I n older b
same_places I n older a b e v = record { at = v.at; settles = λ p hp. subst (Settles I (v.at p)) (e p hp) (v.settles p hp); keeps = v.keeps }

-- the first k processors are where they are said to be, and the others at their starts
abbrev part_of : (ℕ → Proc) → (ℕ → Place) → ℕ → ℕ → Place
part_of start place zero = λ q. Rest (start q)
part_of start place (suc k) = moved_to (part_of start place k) k (place k)

part_below : (start : ℕ → Proc) (place : ℕ → Place) (k q : ℕ) → q < k → part_of start place k q ≡ place q
part_below start place zero q h = absurd (omega (arith, h))
part_below start place (suc k) q h = elim (test q k) [
  | inl d ↦ ap (moved_to (part_of start place k) k (place k)) d.0 ∙ to_here (part_of start place k) k (place k) ∙ ap place (sym d.0)
  | inr d ↦ (let n = d.0 in to_there (part_of start place k) k q (place k) d.0 ∙ part_below start place k q (omega (arith, h, n)))
]

part_above : (start : ℕ → Proc) (place : ℕ → Place) (k q : ℕ) → k ≤ q → part_of start place k q ≡ Rest (start q)
part_above start place zero q h = refl
part_above start place (suc k) q h = let d : q ≢ k = omega (arith, h) in to_there (part_of start place k) k q (place k) d ∙ part_above start place k q (omega (arith, h))

-- naming the place where it is changes nothing
named_again : (place : ℕ → Place) (p q : ℕ) (pl : Place) → place p ≡ pl → place q ≡ moved_to place p pl q
named_again place p q pl e = elim (test q p) [
  | inl d ↦ ap place d.0 ∙ e ∙ sym (to_here place p pl) ∙ ap (moved_to place p pl) (sym d.0)
  | inr d ↦ sym (to_there place p q pl d.0)
]

all_first : (I : Setting) (n : ℕ) (step : Proc → Phrase Proc) (start : ℕ → Proc) (place : ℕ → Place) → IsTidy I → StepLaw step → ((p : ℕ) → IsStart I (start p)) → ((p : ℕ) → p < n → Reaches step (start p) [] (place p)) → (k : ℕ) → k ≤ n → Settled I n [] (part_of start place k)
all_first I n step start place tidy law st walks zero h = record { at = λ p. begins (start p); settles = λ p hp. (refl, (st p).gdtr); keeps = starts I n start st }
all_first I n step start place tidy law st walks (suc k) h =
    let b = part_of start place k in
    let hk : k < n = omega (arith, h) in
    let v = all_first I n step start place tidy law st walks k (omega (arith, h)) in
    first I n k step (start k) b [] (place k) tidy law hk refl (walks k hk) (same_places I n [] b (moved_to b k (Rest (start k))) (λ q hq. named_again b k q (Rest (start k)) (part_above start place k k (omega arith))) v)

before : (first : Contents) (n : ℕ) (step : Proc → Phrase Proc) (start : ℕ → Proc) (x : Cycle) (older : List Cycle) (place : ℕ → Place) (b : Place) → IsWalked first n step start (x ∷ older) place → Reaches step (start x.cpu) (of x.cpu older) b → IsWalked first n step start older (moved_to place x.cpu b)
unfolding AreBelow Consistent Unsplit
before first n step start x older place b run r = record {
  below = run.below.1;
  consistent = run.consistent.1;
  unsplit = run.unsplit.1;
  walks = λ p hp. elim (test p x.cpu) [
    | inl d ↦ subst (λ y. Reaches step (start y) (of y older) (moved_to place x.cpu b y)) (sym d.0) (subst (Reaches step (start x.cpu) (of x.cpu older)) (sym (to_here place x.cpu b)) r)
    | inr d ↦ subst (Reaches step (start p) (of p older)) (sym (to_there place x.cpu p b d.0)) (subst (λ us. Reaches step (start p) us (place p)) (of-other p x older d.0) (run.walks p hp))
  ];
}

-- The invariant over whole histories.
pub settled : (I : Setting) (n : ℕ) (step : Proc → Phrase Proc) (start : ℕ → Proc) (older : List Cycle) (place : ℕ → Place) → IsTidy I → StepLaw step → ((p : ℕ) → IsStart I (start p)) → IsWalked I.first n step start older place → AreJudged I older → Settled I n older place
unfolding of AreBelow AreJudged
settled I n step start [] place tidy law st run clean = same_places I n [] (part_of start place n) place (λ p hp. part_below start place n p hp) (all_first I n step start place tidy law st run.walks n (omega arith))
settled I n step start (x ∷ older) place tidy law st run clean =
    let p = x.cpu in
    let v = advance I n x older step (start p) place (of p (x ∷ older)) (place p) tidy law run.below.0 run.consistent run.unsplit clean (of-own x older) (run.walks p run.below.0) (λ b r. settled I n step start older (moved_to place p b) tidy law st (before I.first n step start x older place b run r) clean.1) in
    same_places I n (x ∷ older) (moved_to place p (place p)) place (λ q hq. sym (named_again place p q (place p) refl)) v
