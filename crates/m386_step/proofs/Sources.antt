-- What a decoder over a source that fetches does on its bus.
use Rattle.std.proofs.Common.{ℕ, ◌<◌, ◌⊎◌, inl, inr, List, ◌++◌, length, Result, Ok, Err, IfOk, IfErr, ◌∙◌, ap, append_assoc}
use Rattle.m386_base.specs.declared.fault.Break.{Break}
use Rattle.m386_base.specs.declared.fault.Break.TheVariants as breaks
use Rattle.m386_base.specs.Bus.{BusView}
use Rattle.m386_base.specs.Phrase.{Completes, BreaksOff, Performs, it}
use Rattle.m386_decode.specs.declared.decoded.Decoded.{Decoded}
use Rattle.m386_decode.specs.Decoding.{WantsMore, Concludes, Concluded, BrokenOff}
use Rattle.m386_step.specs.declared.fetch.Reader.{Reader}
use Rattle.m386_step.specs.Code.{decode_phrase}
use Rattle.m386_step.specs.Fetch.{byte_phrase}
use Rattle.m386_step.specs.Fetched.{Gives}
use Rattle.m386_step.proofs.Decoding.{decodes, faults_as_byte, wants_as_byte}
use Rattle.m386_step.proofs.StepLists.{stopped_then}

-- the bytes that were fetched spell an operation
spelled_completes : (r s : Reader) (u v : BusView) (bytes : List ℕ) (d : Decoded) → Gives r u bytes s v → Concludes bytes (Ok d) → Completes (decode_phrase r) u v d
spelled_completes r s u v bytes d h c = record {
  added = h.added;
  cycles = h.cycles;
  whole = λ rest. decodes r (h.added ++ rest) rest (Ok d) (record { bytes = bytes; reached = s; fetched = h.fetched rest; concludes = c });
  same = h.same;
}

-- the decoder refused the bytes that were fetched
refused_breaks : (r s : Reader) (u v : BusView) (bytes : List ℕ) (b : Break) → Gives r u bytes s v → Concludes bytes (Err b) → BreaksOff (decode_phrase r) u v b
refused_breaks r s u v bytes (breaks.Fault f) h c = record {
  added = h.added;
  cycles = h.cycles;
  broken = λ rest. decodes r (h.added ++ rest) rest (Err (breaks.Fault f)) (record { bytes = bytes; reached = s; fetched = h.fetched rest; concludes = c });
  leaves = h.same;
}
refused_breaks r s u v bytes (breaks.Stop w) h (inl c) = let e = c.2 in cc
refused_breaks r s u v bytes (breaks.Stop w) h (inr c) = let e = c.2 in cc

-- the next byte was wanted, and there was none
source_breaks : (r s : Reader) (u v w : BusView) (bytes : List ℕ) (b : Break) → length bytes < 15 → WantsMore bytes → Gives r u bytes s v → BreaksOff (byte_phrase s) v w b → BreaksOff (decode_phrase r) u w b
source_breaks r s u v w bytes (breaks.Fault f) few wants h k = record {
  added = h.added ++ k.added;
  cycles = k.cycles ∙ ap (λ c. c ++ k.added) h.cycles ∙ append_assoc u.cycles h.added k.added;
  broken = λ rest. rw (append_assoc h.added k.added rest) (faults_as_byte r (h.added ++ (k.added ++ rest)) rest f (record { bytes = bytes; reached = s; mid = k.added ++ rest; fetched = h.fetched (k.added ++ rest); few = few; wants = wants; next = k.broken rest }));
  leaves = record { stops = k.leaves.stops ∙ h.same.stops; pauses = k.leaves.pauses ∙ h.same.pauses; origin = k.leaves.origin ∙ h.same.origin };
}
source_breaks r s u v w bytes (breaks.Stop x) few wants h k = record {
  added = h.added ++ k.added;
  cycles = k.cycles ∙ ap (λ c. c ++ k.added) h.cycles ∙ append_assoc u.cycles h.added k.added;
  broken = (k.broken.0, wants_as_byte r (h.added ++ k.added) k.broken.0 (record { bytes = bytes; reached = s; mid = k.added; fetched = h.fetched k.added; few = few; wants = wants; next = k.broken.1 }), k.broken.2);
  leaves = stopped_then u v w x h.same k.leaves;
}

-- A source whose states have a reader and a bus, on which it fetches.
pub decoder_performs : {S : Type 0} (Gave : S → S → List ℕ → Type 0) (Broke : S → S → Break → Type 0) (reader : S → Reader) (view : S → BusView)
    → ((s t : S) (bytes : List ℕ) → Gave s t bytes → Gives (reader s) (view s) bytes (reader t) (view t))
    → ((s t : S) (b : Break) → Broke s t b → BreaksOff (byte_phrase (reader s)) (view s) (view t) b)
    → (old new : S) (r : Result Decoded Break) → IfOk r (λ d. Concluded Gave old new (Ok d)) → IfErr r (λ b. Concluded Gave old new (Err b) ⊎ BrokenOff Gave Broke old new b)
    → Performs (decode_phrase (reader old)) (view old) (view new) it r
decoder_performs Gave Broke reader view gives breaks_off old new (Ok d) ok err =
    spelled_completes (reader old) (reader new) (view old) (view new) ok.bytes d (gives old new ok.bytes ok.gave) ok.concludes
decoder_performs Gave Broke reader view gives breaks_off old new (Err b) ok (inl e) =
    refused_breaks (reader old) (reader new) (view old) (view new) e.bytes b (gives old new e.bytes e.gave) e.concludes
decoder_performs Gave Broke reader view gives breaks_off old new (Err b) ok (inr e) =
    source_breaks (reader old) (reader e.reached) (view old) (view e.reached) (view new) e.bytes b e.few e.wants (gives old e.reached e.bytes e.gave) (breaks_off e.reached new b e.broke)
