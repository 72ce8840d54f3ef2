-- What comes of decoding listed bytes.
use Rattle.std.proofs.Common.{◌≡◌, ℕ, ◌<◌, ◌≤◌, ◌⊎◌, ◌↔◌, inl, inr, List, ◌++◌, length, Result, Ok, Err, IfOk, IfErr, refl, sym, ◌∙◌, ap, arith, subst, ⊎_elim}
use Rattle.std.proofs.lemmas.Bool.{cases_lt}
use Rattle.std.proofs.lemmas.List.{append-nil}
use Rattle.m386_base.specs.declared.fault.Break.{Break}
use Rattle.m386_opmap.specs.declared.op.Op.{Op}
use Rattle.m386_opmap.specs.Spelling.{Spells}
use Rattle.m386_decode.specs.declared.decoded.Decoded.{Decoded}
use Rattle.m386_decode.specs.Decoding.{WantsMore, Concludes, IsAnswered, Concluded, BrokenOff}
use Rattle.m386_decode.specs.Slices.{SliceBroke, paused}
use Rattle.m386_decode.proofs.Exact.{same_answer, answered_wants_none}

-- a front has the answer, or all the bytes want more and the source paused
abbrev pub SliceOutcome : List ℕ → Result Decoded Break → Type 0
SliceOutcome bytes r = IsAnswered bytes r ⊎ (((length bytes < 15) × WantsMore bytes) × (r ≡ Err paused))

-- listed bytes and what is left of them
abbrev Gives : List ℕ → List ℕ → List ℕ → Type 0
Gives old new bytes = old ≡ bytes ++ new

concluded_outcome : (bytes new : List ℕ) (r : Result Decoded Break) → Concluded Gives bytes new r → SliceOutcome bytes r
concluded_outcome bytes new r c = inl (record { front = c.bytes; rest = new; parts = c.gave; concludes = c.concludes })

broken_outcome : (bytes new : List ℕ) (b : Break) → BrokenOff Gives SliceBroke bytes new b → SliceOutcome bytes (Err b)
broken_outcome bytes new b c =
    let whole : c.bytes ≡ bytes = sym (c.gave ∙ ap (λ x. c.bytes ++ x) c.broke.0 ∙ append-nil c.bytes) in
    let W : List ℕ → Type 0 = λ x. (length x < 15) × WantsMore x in
    inr (subst W whole (c.few, c.wants), ap Err c.broke.2)

pub slice_outcome : (bytes new : List ℕ) (r : Result Decoded Break) → IfOk r (λ d. Concluded Gives bytes new (Ok d))
    → IfErr r (λ b. Concluded Gives bytes new (Err b) ⊎ BrokenOff Gives SliceBroke bytes new b) → SliceOutcome bytes r
slice_outcome bytes new (Ok d) ok err = concluded_outcome bytes new (Ok d) ok
slice_outcome bytes new (Err b) ok err = ⊎_elim (λ c. concluded_outcome bytes new (Err b) c) (λ c. broken_outcome bytes new b c) err

-- bytes with an answer don't pause
answered_goes_on : (bytes : List ℕ) (r : Result Decoded Break) → IsAnswered bytes r → ((length bytes < 15) × WantsMore bytes) → ⊥
answered_goes_on bytes r s wants =
    let W : List ℕ → Type 0 = λ x. (length x < 15) × WantsMore x in
    let w : (length (s.front ++ s.rest) < 15) × WantsMore (s.front ++ s.rest) = subst W s.parts wants in
    answered_wants_none s.front s.rest r s.concludes w.1 w.0

-- bytes have one answer
answers_same : (bytes : List ℕ) (a b : Result Decoded Break) → IsAnswered bytes a → IsAnswered bytes b → a ≡ b
answers_same bytes a b s t =
    ⊎_elim
    (λ (h : length s.front < length t.front). same_answer s.front s.rest t.front t.rest a b (sym s.parts ∙ t.parts) (omega (arith, h)) s.concludes t.concludes)
    (λ (h : length t.front ≤ length s.front). sym (same_answer t.front t.rest s.front s.rest b a (sym t.parts ∙ s.parts) h t.concludes s.concludes))
    (cases_lt (length s.front) (length t.front))

pub exact : (bytes : List ℕ) (r answer : Result Decoded Break) → SliceOutcome bytes r → IsAnswered bytes answer → r ≡ answer
exact bytes r answer (inl s) t = answers_same bytes r answer s t
exact bytes r answer (inr w) t = absurd (answered_goes_on bytes answer t w.0)

pub spelled : (bytes : List ℕ) (r : Result Decoded Break) (op : Op) (front rest : List ℕ) → SliceOutcome bytes r → bytes ≡ front ++ rest → length front ≤ 15
    → Spells op front → r ≡ Ok (record { op = op; len = length front })
spelled bytes r op front rest o parts few s =
    exact bytes r (Ok (record { op = op; len = length front })) o (record { front = front; rest = rest; parts = parts; concludes = (few, (refl, s)) })

-- no answer of a decoder's own is that of a source that paused
never_paused : (front : List ℕ) → Concludes front (Err paused) → ⊥
never_paused front (inl s) = let e = s.2 in cc
never_paused front (inr s) = let e = s.2 in cc

paused_wants : (bytes : List ℕ) (r : Result Decoded Break) → SliceOutcome bytes r → r ≡ Err paused → (length bytes < 15) × WantsMore bytes
paused_wants bytes r (inl s) e =
    let C : Result Decoded Break → Type 0 = Concludes s.front in
    absurd (never_paused s.front (subst C e s.concludes))
paused_wants bytes r (inr w) e = w.0

wants_pauses : (bytes : List ℕ) (r : Result Decoded Break) → SliceOutcome bytes r → (length bytes < 15) × WantsMore bytes → r ≡ Err paused
wants_pauses bytes r (inl s) w = absurd (answered_goes_on bytes r s w)
wants_pauses bytes r (inr v) w = v.1

pub pauses : (bytes : List ℕ) (r : Result Decoded Break) → SliceOutcome bytes r → (r ≡ Err paused) ↔ ((length bytes < 15) × WantsMore bytes)
pauses bytes r o = (λ e. paused_wants bytes r o e, λ w. wants_pauses bytes r o w)
