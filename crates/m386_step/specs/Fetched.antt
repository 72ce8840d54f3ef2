-- Which bytes were fetched, by the cycles that were made, and what the decoder says of them.
use Rattle.std.specs.Prelude.{◌≡◌, ◌<◌, ℕ, List, [], ◌∷◌, ◌++◌, length, Result}
use Rattle.std.proofs.Common.{refl, sym, ◌∙◌, ap, append_assoc, append-nil}
use Rattle.m386_base.specs.declared.ask.Ask.{Ask}
use Rattle.m386_base.specs.declared.fault.Break.{Break}
use Rattle.m386_base.specs.Bus.{BusView}
use Rattle.m386_base.specs.Phrase.{Judgement, Whole, follow, SameBus}
use Rattle.m386_decode.specs.declared.decoded.Decoded.{Decoded}
use Rattle.m386_decode.specs.Decoding.{WantsMore, Concludes}
use Rattle.m386_step.specs.declared.fetch.Reader.{Reader}
use Rattle.m386_step.specs.Fetch.{byte_phrase}

-- From one reader to another the cycles begin with the fetches of these bytes, each by its phrase, and the rest follows.
-- Own choice: docs/DECISIONS.md, "Fetches"
unfoldable pub Fetched : Reader → List ℕ → Reader → List Ask → List Ask → Type 0
Fetched r [] s ts rest = (s ≡ r) × (rest ≡ ts)
Fetched r (b ∷ bytes) s ts rest = (next : Reader) × (mid : List Ask) × (follow (byte_phrase r) ts ≡ Whole (b, next) mid) × Fetched next bytes s mid rest

-- The cycles begin with the fetches of bytes behind which the decoder has this answer of its own, and the rest follows.
-- Own choice: docs/DECISIONS.md, "What the decoder answers"
pub record DecodesTo (r : Reader) (ts rest : List Ask) (answer : Result Decoded Break) : Type 0 where
  pub bytes : List ℕ
  pub reached : Reader
  pub fetched : Fetched r bytes reached ts rest
  pub concludes : Concludes bytes answer

-- The cycles begin with the fetches of fewer than 15 bytes, which want more, and behind them the next byte's are judged so.
-- Own choice: docs/DECISIONS.md, "What the decoder answers"
pub record WantsByte (r : Reader) (ts : List Ask) (verdict : Judgement (ℕ × Reader)) : Type 0 where
  pub bytes : List ℕ
  pub reached : Reader
  pub mid : List Ask
  pub fetched : Fetched r bytes reached ts mid
  pub few : length bytes < 15
  pub wants : WantsMore bytes
  pub next : follow (byte_phrase reached) mid ≡ verdict

-- the cycles that a bus gained are the fetches of these bytes
pub record Gives (r : Reader) (old : BusView) (bytes : List ℕ) (s : Reader) (new : BusView) : Type 0 where
  pub added : List Ask
  pub cycles : new.cycles ≡ old.cycles ++ added
  pub fetched : (rest : List Ask) → Fetched r bytes s (added ++ rest) rest
  pub same : SameBus old new

-- bytes, and then further ones
pub fetched_more : (r s t : Reader) (bytes more : List ℕ) (ts mid rest : List Ask) → Fetched r bytes s ts mid → Fetched s more t mid rest → Fetched r (bytes ++ more) t ts rest
unfolding Fetched
fetched_more r s t [] more ts mid rest h k = rw (← h.0, ← h.1) k
fetched_more r s t (b ∷ bytes) more ts mid rest h k = (h.0, h.1, h.2, fetched_more h.0 s t bytes more h.1 mid rest h.3 k)

-- a bus on which nothing was done
pub gives_nothing : (r : Reader) (v : BusView) → Gives r v [] r v
unfolding Fetched
gives_nothing r v = record {
  added = [];
  cycles = sym (append-nil v.cycles);
  fetched = λ rest. (refl, refl);
  same = record { stops = refl; pauses = refl; origin = refl };
}

-- the same of a bus
pub gives_more : (r s t : Reader) (u v w : BusView) (bytes more : List ℕ) → Gives r u bytes s v → Gives s v more t w → Gives r u (bytes ++ more) t w
gives_more r s t u v w bytes more h k = record {
  added = h.added ++ k.added;
  cycles = k.cycles ∙ ap (λ c. c ++ k.added) h.cycles ∙ append_assoc u.cycles h.added k.added;
  fetched = λ rest. rw (append_assoc h.added k.added rest) (fetched_more r s t bytes more (h.added ++ (k.added ++ rest)) (k.added ++ rest) rest (h.fetched (k.added ++ rest)) (k.fetched rest));
  same = record { stops = k.same.stops ∙ h.same.stops; pauses = k.same.pauses ∙ h.same.pauses; origin = k.same.origin ∙ h.same.origin };
}
