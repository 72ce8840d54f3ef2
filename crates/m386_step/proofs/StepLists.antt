-- Whole steps that are followed by one more.
use Rattle.std.proofs.Common.{◌≡◌, ◌≢◌, ℕ, zero, suc, ◌+◌, List, [], ◌++◌, refl, ap, ◌∙◌, append_assoc, append-nil, add-one, ◌<◌, inl, inr, sym, Some}
use Rattle.m386_base.specs.declared.ask.Ask.{Ask}
use Rattle.m386_base.specs.declared.fault.Stop.{Stop}
use Rattle.m386_base.specs.Bus.{BusView}
use Rattle.m386_base.specs.Phrase.{Whole, Wants, IsJudged, SameBus, Stopped}
use Rattle.m386_base.proofs.Bounds.{follow-front}
use Rattle.m386_state.specs.declared.proc.Proc.{Proc}
use Rattle.m386_state.specs.declared.proc.Mode.TheVariants.{Shutdown}
use Rattle.m386_step.specs.Step.{step_phrase, Follow}
use Rattle.m386_step.specs.Steps.{Steps, RunsOn, StopsAmid}

pub steps_more : (k j : ℕ) (s mid s2 : Proc) (ts us : List Ask) → Steps k [] j s ts mid → mid.mode ≢ Shutdown → Follow mid us ≡ Whole s2 [] → Steps (suc k) [] j s (ts ++ us) s2
unfolding Steps
steps_more zero j s mid s2 ts us h lives f =
    let ts_is : ts ≡ [] = h.0 in
    let mid_is : mid ≡ s = h.1 in
    rw ts_is (let l : s.mode ≢ Shutdown = rw mid_is at lives in
    let g : Follow s us ≡ Whole s2 [] = rw mid_is at f in
    (l, s2, [], g, (refl, refl)))
steps_more (suc k) j s mid s2 ts us h lives f =
    (h.0, h.1, h.2 ++ us, follow-front (step_phrase s) h.1 ts h.2 us h.3, steps_more k (j + 1) h.1 mid s2 h.2 us h.4 lives f)

-- the cycles of whole steps that a bus has gained so far
pub record SoFar (s : Proc) (old now : BusView) (p : Proc) (k : ℕ) : Type 0 where
  pub added : List Ask
  pub cycles : now.cycles ≡ old.cycles ++ added
  pub steps : Steps k [] 0 s added p
  pub same : SameBus old now

pub so_far_none : (s : Proc) (v : BusView) → SoFar s v v s 0
unfolding Steps
so_far_none s v = record { added = []; cycles = sym (append-nil v.cycles); steps = (refl, refl); same = record { stops = refl; pauses = refl; origin = refl } }

pub so_far_more : (s : Proc) (old now new : BusView) (p p2 : Proc) (k : ℕ) → SoFar s old now p k → p.mode ≢ Shutdown → IsJudged (step_phrase p) now new (Whole p2 []) → SameBus now new → SoFar s old new p2 (k + 1)
so_far_more s old now new p p2 k h lives j b = rw (add-one k) (record {
  added = h.added ++ j.0;
  cycles = j.1 ∙ ap (λ c. c ++ j.0) h.cycles ∙ append_assoc old.cycles h.added j.0;
  steps = steps_more k 0 s p p2 h.added j.0 h.steps lives j.2;
  same = record { stops = b.stops ∙ h.same.stops; pauses = b.pauses ∙ h.same.pauses; origin = b.origin ∙ h.same.origin };
})

-- the whole budget was used
pub runs_out : (s : Proc) (old now : BusView) (p : Proc) (k n : ℕ) → SoFar s old now p k → k ≡ n → RunsOn [] n s old now p k
runs_out s old now p k n h e = record { added = h.added; cycles = h.cycles; runs = record { steps = h.steps; budget = inl e }; same = h.same }

-- the processor was shut down before
pub runs_down : (s : Proc) (old now : BusView) (p : Proc) (k n : ℕ) → SoFar s old now p k → k < n → p.mode ≡ Shutdown → RunsOn [] n s old now p k
runs_down s old now p k n h l e = record { added = h.added; cycles = h.cycles; runs = record { steps = h.steps; budget = inr (l, e) }; same = h.same }

-- the bus stopped in the midst of a step
pub stops_amid : (s : Proc) (old now new : BusView) (p : Proc) (k n : ℕ) (q : Ask) → SoFar s old now p k → k < n → IsJudged (step_phrase p) now new (Wants q) → new.wanted ≡ Some q → StopsAmid [] n s old new p
stops_amid s old now new p k n q h l j r = record {
  whole = h.added;
  front = j.0;
  count = k;
  wanted = q;
  cycles = j.1 ∙ ap (λ c. c ++ j.0) h.cycles ∙ append_assoc old.cycles h.added j.0;
  fewer = l;
  steps = h.steps;
  wants = j.2;
  refused = r;
}

-- a bus that was the same up to where it stopped
pub stopped_then : (old now new : BusView) (w : Stop) → SameBus old now → Stopped now new w → Stopped old new w
stopped_then old now new w p q = record {
  kept = q.kept;
  never_falls = rw (← p.stops) q.never_falls;
  rose = rw (← p.stops) q.rose;
  pauses = q.pauses ∙ p.pauses;
  origin = q.origin ∙ p.origin;
  why = rw (← p.pauses) q.why;
}
