-- The runs of the machine exclude: their cycles lead each processor from step to step.
use Rattle.std.proofs.Common.{◌≡◌, ℕ, zero, suc, ◌+◌, ◌<◌, ◌==◌, ◌/◌, ◌%◌, ◌^◌, ◌∙◌, arith, refl, sym, ap, subst, List, [], ◌∷◌, ◌++◌, length, Bool, true, false, if◌then◌else◌, inl, inr, Option, Some, slice_get, slice_index, get_or}
use Rattle.std.proofs.lemmas.Option.{slice_get-get_or}
use Rattle.m386_base.specs.declared.ask.Ask.{Ask}
use Rattle.m386_base.specs.declared.ask.Cycle.{Cycle}
use Rattle.m386_image.specs.declared.image.Image.{Image}
use Rattle.m386_image.specs.Format.{IsValid}
use Rattle.m386_memory.specs.Contents.{Contents}
use Rattle.m386_memory.specs.History.{cycles_of, past}
use Rattle.m386_memory.specs.declared.ended.ProcEnd.{ProcEnd}
use Rattle.m386_book.specs.Verdict.{NoneStatic, AreClean}
use Rattle.m386_state.specs.declared.proc.Proc.{Proc}
use Rattle.m386_state.specs.Start.{bare, task}
use Rattle.m386_step.specs.Run.{Run, BeginsWith, start_of, plan_of, table_reg}
use Rattle.m386_step.specs.Step.{step_phrase}
use Rattle.m386_step.specs.Steps.{Plan, Steps, Runs, is_requested, requested, planned}
use Rattle.m386_exclusion.specs.Histories.{Place, Rest, Amid, Reaches, Begins, Enters, AreBelow, BeginsAs, IsStart, IsWalked, asked, of}
use Rattle.m386_exclusion.proofs.Counts.{test}
use Rattle.m386_exclusion.proofs.Exclusion.{excludes}
use Rattle.m386_exclusion.proofs.Histories.{moved_to, to_here, to_there}
use Rattle.m386_exclusion.proofs.Order.{Walked, all_below, of_onto, onto, onto_append, past_is, place_of, walked_front, walked_placed, whole_leads}
use Rattle.m386_exclusion_runs.specs.Runs.{ExcludesAfter, ExcludesWhileClean, setting}
use Rattle.m386_exclusion_runs.proofs.Steps.{step_keeps}

-- ---- whole steps lead on

-- a plan may put a request before a step, and changes nothing else
Requested : Plan → ℕ → Proc → Type 0
Requested q j s = (request : Option ℕ) × (requested q j s ≡ asked s request)

requested_is : (q : Plan) (j : ℕ) (s : Proc) → Requested q j s
unfolding Requested
requested_is [] j s = (s.request, refl)
requested_is (e ∷ q) j s = go (is_requested (e ∷ q) j s)
  where
    go : (b : Bool) → (request : Option ℕ) × ((if b then record s { request = Some e.1 } else s) ≡ asked s request)
    go true = (Some e.1, refl)
    go false = (s.request, refl)

steps_lead : (k : ℕ) (q : Plan) (j : ℕ) (s0 s : Proc) (ts us : List Ask) (s2 : Proc) → Steps k q j s ts s2 → Reaches step_phrase s0 us (Rest s) → Reaches step_phrase s0 (onto ts us) (Rest s2)
unfolding Steps onto Requested
steps_lead zero q j s0 s ts us s2 h r = subst (λ l. Reaches step_phrase s0 (onto l us) (Rest s2)) (sym h.0) (subst (λ m. Reaches step_phrase s0 us (Rest m)) (sym h.1) r)
steps_lead (suc k) q j s0 s ts us s2 h r =
    let mid : Proc = h.1 in
    let rest : List Ask = h.2 in
    let begun : Proc = requested q j s in
    let is = requested_is q j s in
    let enters : Reaches step_phrase s0 us (Amid begun (step_phrase begun)) = subst (λ x. Reaches step_phrase s0 us (Amid x (step_phrase x))) (sym is.1) (Enters r is.0) in
    let w = whole_leads step_phrase s0 begun (step_phrase begun) ts us rest mid h.3 enters in
    subst (λ l. Reaches step_phrase s0 l (Rest s2)) (sym w.laid) (steps_lead k (planned q j s) (j + 1) s0 mid rest w.cycles s2 h.4 w.reaches)

-- of one processor, the newest cycle first
cycles_lead : (start : Proc) (k : ℕ) (q : Plan) (p : ℕ) (G : List Cycle) (s : Proc) → Steps k q 0 start (cycles_of p G) s → Reaches step_phrase start (of p (past G)) (Rest s)
unfolding of
cycles_lead start k q p G s h = subst (λ us. Reaches step_phrase start us (Rest s)) (sym (ap (of p) (past_is G) ∙ of_onto p G [])) (steps_lead k q 0 start start (cycles_of p G) [] s h Begins)

-- ---- the start

starts_well : (image : Image) (first : Contents) (p : ℕ) → IsStart (setting image first) (start_of image p)
starts_well image first p = go (image.flags / 2 ^ p % 2 == 0)
  where
    go : (b : Bool) → IsStart (setting image first) (if b then bare (slice_index image.starts p) (table_reg image.gdt) (table_reg image.idt) else task (slice_index image.starts p % 2 ^ 16) (table_reg image.gdt) (table_reg image.idt))
    go true = record { none = refl; nested = refl; gdtr = refl }
    go false = record { none = refl; nested = refl; gdtr = refl }

begins_as : (image : Image) (first : Contents) → BeginsWith image first → BeginsAs (setting image first)
begins_as image first b = record { size = b.size; bytes = b.bytes }

-- ---- the run

item_at : {A : Type 0} (E : List A) (p : ℕ) → p < length E → (e : A) × (slice_get E p ≡ Some e)
item_at [] p h = absurd (omega (arith, h))
item_at (x ∷ xs) p h = (get_or (x ∷ xs) p x, slice_get-get_or (x ∷ xs) p x h)

walked_run : (image : Image) (c n : ℕ) (H : List Cycle) (E : List (ProcEnd Proc)) → (run : Run image c n H E) → Walked step_phrase run.first c (start_of image) (past H)
unfolding AreBelow
walked_run image c n H E run = record {
  below = subst (AreBelow c) (sym (past_is H)) (all_below c H [] run.below tt);
  consistent = run.history.consistent;
  unsplit = run.history.unsplit;
  walks = λ p hp.
      let e = item_at E p (subst (λ k. p < k) (sym run.count) hp) in
      let r : Runs (plan_of image p) n (start_of image p) (cycles_of p H) e.0.after e.0.steps = run.walks p e.0 e.1 in
      (Rest e.0.after, cycles_lead (start_of image p) e.0.steps (plan_of image p) p H e.0.after r.steps);
}

-- a front of it
walked_of : (image : Image) (c : ℕ) (first : Contents) (G K H : List Cycle) → H ≡ G ++ K → Walked step_phrase first c (start_of image) (past H) → Walked step_phrase first c (start_of image) (past G)
walked_of image c first G K H e w =
    let laid : past H ≡ onto K (past G) = ap past e ∙ past_is (G ++ K) ∙ onto_append G K [] ∙ ap (onto K) (sym (past_is G)) in
    walked_front step_phrase first c (start_of image) K (past G) (subst (Walked step_phrase first c (start_of image)) laid w)

-- where one processor is at rest, the places of all
rests_at : (image : Image) (c : ℕ) (first : Contents) (G : List Cycle) (place : ℕ → Place) (p k : ℕ) (s : Proc) → IsWalked first c step_phrase (start_of image) (past G) place → Steps k (plan_of image p) 0 (start_of image p) (cycles_of p G) s → IsWalked first c step_phrase (start_of image) (past G) (moved_to place p (Rest s))
rests_at image c first G place p k s w h = record {
  below = w.below;
  consistent = w.consistent;
  unsplit = w.unsplit;
  walks = λ q hq. elim (test q p) [
    | inl d ↦ subst (λ y. Reaches step_phrase (start y) (of y (past G)) (moved_to place p (Rest s) y)) (sym d.0) (subst (Reaches step_phrase (start p) (of p (past G))) (sym (to_here place p (Rest s))) (cycles_lead (start p) k (plan_of image p) p G s h))
    | inr d ↦ subst (Reaches step_phrase (start q) (of q (past G))) (sym (to_there place p q (Rest s) d.0)) (w.walks q hq)
  ];
}
  where
    start : ℕ → Proc
    start = start_of image

walked_excludes : (image : Image) (c : ℕ) (first : Contents) (G : List Cycle) → IsValid image → BeginsWith image first → Walked step_phrase first c (start_of image) (past G) → NoneStatic image → AreClean image (past G) → ExcludesAfter image first c G
walked_excludes image c first G valid begins w none clean =
    let I = setting image first in
    let start = start_of image in
    let place : ℕ → Place = place_of step_phrase first c start (past G) w in
    let at : IsWalked first c step_phrase start (past G) place = walked_placed step_phrase first c start (past G) w in
    record {
      exclusive = (excludes step_phrase step_keeps I c start valid (begins_as image first begins) (starts_well image first) (past G) place at none clean).exclusive;
      named = λ p k s hp h. (excludes step_phrase step_keeps I c start valid (begins_as image first begins) (starts_well image first) (past G) (moved_to place p (Rest s)) (rests_at image c first G place p k s at h) none clean).named p s hp (to_here place p (Rest s));
    }

-- Each front of a run.
pub run_excludes : (image : Image) (c n : ℕ) (H : List Cycle) (E : List (ProcEnd Proc)) → IsValid image → (run : Run image c n H E) → ExcludesWhileClean image run.first c H
run_excludes image c n H E valid run = record { fronts = λ G K e none clean. walked_excludes image c run.first G valid run.begins (walked_of image c run.first G K H e (walked_run image c n H E run)) none clean }
