-- What was added on a fresh bus of listed values.
use Rattle.std.proofs.Common.{◌≡◌, ℕ, ◌<◌, true, List, [], ◌++◌, length, sym, ◌∙◌, ap, arith, append-nil, Some, inl, inr}
use Rattle.m386_base.specs.declared.ask.Ask.{Ask}
use Rattle.m386_base.specs.declared.fault.Stop.{Stop}
use Rattle.m386_base.specs.declared.fault.Break.TheVariants as breaks
use Rattle.m386_base.specs.Bus.{BusView}
use Rattle.m386_base.specs.Phrase.{Phrase, follow, Completes, BreaksOff}
use Rattle.m386_base.specs.Replay.{Found, Lacks, replay, are_told}
use Rattle.m386_base.proofs.Replays.{replay_whole, replay_wants, AreTold-from_test}

pub probe_whole : {A : Type 0} (t : Phrase A) (old new : BusView) (a : A) (vs : List ℕ) → Completes t old new a → old.cycles ≡ [] → are_told new.cycles vs ≡ true → replay t vs ≡ Found a (length new.cycles)
probe_whole t old new a vs p e h =
    let c : new.cycles ≡ p.added = p.cycles ∙ ap (λ x. x ++ p.added) e in
    rw c (replay_whole t a p.added vs (AreTold-from_test p.added vs (rw c at h)) (ap (follow t) (sym (append-nil p.added)) ∙ p.whole []))

-- the bus wants what the phrase asks
pub record ProbeWants {A : Type 0} (t : Phrase A) (vs : List ℕ) (new : BusView) : Type 0 where
  pub ask : Ask
  pub replayed : replay t vs ≡ Lacks ask
  pub wanted : new.wanted ≡ Some ask

pub probe_wants : {A : Type 0} (t : Phrase A) (old new : BusView) (s : Stop) (vs : List ℕ) → BreaksOff t old new (breaks.Stop s) → old.cycles ≡ [] → are_told new.cycles vs ≡ true → (0 < new.stops → length new.cycles ≡ length vs) → ProbeWants t vs new
probe_wants t old new s vs p e h u =
    let c : new.cycles ≡ p.added = p.cycles ∙ ap (λ x. x ++ p.added) e in
    let l : 0 < new.stops = elim p.leaves.rose [ inl x ↦ omega arith | inr y ↦ omega arith ] in
    let m : length p.added ≡ length vs = ap length (sym c) ∙ u l in
    record {
      ask = p.broken.0;
      replayed = replay_wants t p.broken.0 p.added vs (AreTold-from_test p.added vs (rw c at h)) m p.broken.1;
      wanted = p.broken.2;
    }
