-- A phrase that decodes byte by byte comes to the decoder's answers, and to no other end.
use Rattle.std.proofs.Common.{◌≡◌, ◌↔◌, ℕ, zero, suc, ◌+◌, ◌-◌, ◌<◌, ◌≤◌, ◌⊎◌, inl, inr, List, [], ◌∷◌, ◌++◌, length, take, drop, Result, Ok, Err, refl, sym, ◌∙◌, ap, arith, subst, append_assoc, append-nil, length-append}
use Rattle.std.proofs.lemmas.List.{take-append-drop}
use Rattle.m386_base.specs.declared.ask.Ask.{Ask}
use Rattle.m386_base.specs.declared.fault.Break.{Break}
use Rattle.m386_base.specs.declared.fault.Break.TheVariants as breaks
use Rattle.m386_base.specs.declared.fault.Fault.{Fault}
use Rattle.m386_base.specs.Phrase.{follow, follow->>=, after, Judgement, Whole, Faulted, Wants, Wrong}
use Rattle.m386_opmap.specs.declared.outcome.Reading.{Reading}
use Rattle.m386_opmap.specs.declared.outcome.Reading.TheVariants.{Spelled, More, Refused}
use Rattle.m386_opmap.specs.Readings.{reading_of}
use Rattle.m386_opmap.specs.Spelling.{BeginsSpelling, IsReadingOf}
use Rattle.m386_opmap.proofs.Laws.{reading_is}
use Rattle.m386_opmap.proofs.Sound.{AllAreBytes, front_bytes}
use Rattle.m386_decode.specs.declared.decoded.Decoded.{Decoded}
use Rattle.m386_decode.specs.Decoding.{WantsMore, Concludes}
use Rattle.m386_decode.proofs.Concluding.{wants_nothing, spelled_whole, refused_at_last, begins_before}
use Rattle.m386_decode.proofs.Exact.{one_answer, answered_wants_none, wanting_before}
use Rattle.m386_step.specs.declared.fetch.Reader.{Reader}
use Rattle.m386_step.specs.Code.{read_on, further_phrase, decode_phrase}
use Rattle.m386_base.specs.Exceptions.{undefined_opcode_of, general_protection_of}
use Rattle.m386_step.specs.Fetch.{byte_phrase}
use Rattle.m386_step.specs.Fetched.{Fetched, DecodesTo, WantsByte, fetched_more}
use Rattle.m386_step.proofs.Fetching.{fetched_bytes, fetched_none}

-- what follows one byte
abbrev behind : ℕ → List ℕ → ℕ × Reader → List Ask → Judgement Decoded
behind n front b rest = follow (read_on (reading_of (front ++ b.0 ∷ [])) (further_phrase n (front ++ b.0 ∷ []) b.1)) rest

further_step : (n : ℕ) (front : List ℕ) (r : Reader) (ts : List Ask) → follow (further_phrase (suc n) front r) ts ≡ after (follow (byte_phrase r) ts) (behind n front)
unfolding further_phrase
further_step n front r ts = follow->>= (byte_phrase r) _ ts

-- what each judgement says of the bytes that were fetched
abbrev pub IsDecoding : Reader → List Ask → Judgement Decoded → Type 0
IsDecoding r ts (Whole d rest) = DecodesTo r ts rest (Ok d)
IsDecoding r ts (Faulted f rest) = DecodesTo r ts rest (Err (breaks.Fault f)) ⊎ WantsByte r ts (Faulted f rest)
IsDecoding r ts (Wants q) = WantsByte r ts (Wants q)
IsDecoding r ts Wrong = Unit {0}

-- the last of these bytes has just come
read_is : (n : ℕ) (front : List ℕ) (b : ℕ) (r s : Reader) (ts rest : List Ask) → length (front ++ b ∷ []) ≤ 15 → WantsMore front → Fetched r (front ++ b ∷ []) s ts rest
    → (x : Reading) → IsReadingOf (front ++ b ∷ []) x → (WantsMore (front ++ b ∷ []) → IsDecoding r ts (follow (further_phrase n (front ++ b ∷ []) s) rest))
    → IsDecoding r ts (follow (read_on x (further_phrase n (front ++ b ∷ []) s)) rest)
unfolding follow
read_is n front b r s ts rest few wants h (Spelled op len) said more =
    record { bytes = front ++ b ∷ []; reached = s; fetched = h; concludes = (few, spelled_whole front b (front ++ b ∷ []) op len refl wants said) }
read_is n front b r s ts rest few wants h (Refused at) said more =
    inl (record { bytes = front ++ b ∷ []; reached = s; fetched = h; concludes = inl (few, refused_at_last front b (front ++ b ∷ []) at refl wants said, refl) })
read_is n front b r s ts rest few wants h More said more = more said

one_longer : (n : ℕ) (front : List ℕ) (b : ℕ) → suc n + length front ≡ 15 → n + length (front ++ b ∷ []) ≡ 15
one_longer n front b size = omega (arith, size, length-append front (b ∷ []))

-- these bytes have come, and want more
decoding_is : (n : ℕ) (front : List ℕ) (r s : Reader) (ts mid : List Ask) → n + length front ≡ 15 → WantsMore front → Fetched r front s ts mid → IsDecoding r ts (follow (further_phrase n front s) mid)
unfolding further_phrase follow Fetched
decoding_is zero front r s ts mid size wants h = inl (record { bytes = front; reached = s; fetched = h; concludes = inr (omega (arith, size), wants, refl) })
decoding_is (suc n) front r s ts mid size wants h =
    let D : Judgement Decoded → Type 0 = IsDecoding r ts in
    subst D (sym (further_step n front s mid)) (go (follow (byte_phrase s) mid) refl (λ b t rest. decoding_is n (front ++ b ∷ []) r t ts rest))
  where
    go : (v : Judgement (ℕ × Reader)) → follow (byte_phrase s) mid ≡ v
        → ((b : ℕ) (t : Reader) (rest : List Ask) → n + length (front ++ b ∷ []) ≡ 15 → WantsMore (front ++ b ∷ []) → Fetched r (front ++ b ∷ []) t ts rest → IsDecoding r ts (follow (further_phrase n (front ++ b ∷ []) t) rest))
        → IsDecoding r ts (after v (behind n front))
    go (Whole b rest) e ih =
        let size_more : n + length (front ++ b.0 ∷ []) ≡ 15 = one_longer n front b.0 size in
        let fetched : Fetched r (front ++ b.0 ∷ []) b.1 ts rest = fetched_more r s b.1 front (b.0 ∷ []) ts mid rest h (b.1, rest, e, (refl, refl)) in
        read_is n front b.0 r b.1 ts rest (omega (arith, size_more)) wants fetched (reading_of (front ++ b.0 ∷ [])) (reading_is (front ++ b.0 ∷ []) (fetched_bytes (front ++ b.0 ∷ []) r b.1 ts rest fetched))
        (λ w. ih b.0 b.1 rest size_more w fetched)
    go (Faulted f rest) e ih = inr (record { bytes = front; reached = s; mid = mid; fetched = h; few = omega (arith, size); wants = wants; next = e })
    go (Wants q) e ih = record { bytes = front; reached = s; mid = mid; fetched = h; few = omega (arith, size); wants = wants; next = e }
    go Wrong e ih = tt

pub decode_is : (r : Reader) (ts : List Ask) → IsDecoding r ts (follow (decode_phrase r) ts)
unfolding decode_phrase Fetched
decode_is r ts = decoding_is 15 [] r r ts ts refl wants_nothing (refl, refl)

-- bytes that want more read so
wants_reads : (bytes : List ℕ) → AllAreBytes bytes → WantsMore bytes → reading_of bytes ≡ More
wants_reads bytes are wants = go (reading_of bytes) refl (reading_is bytes are)
  where
    go : (x : Reading) → reading_of bytes ≡ x → IsReadingOf bytes x → reading_of bytes ≡ More
    go More e said = e
    go (Spelled op len) e said = absurd (wants.0 op (take len bytes) (drop len bytes) (sym (take-append-drop len bytes)) said.1)
    go (Refused at) e said =
        let B : List ℕ → Type 0 = BeginsSpelling in
        absurd (said.1.1.1 (begins_before (take (at + 1) bytes) (drop (at + 1) bytes) (subst B (sym (take-append-drop (at + 1) bytes)) wants.1)))

-- bytes have come that want more with those before them
further_on : (bytes front : List ℕ) (n : ℕ) (r s : Reader) (ts mid : List Ask) → WantsMore (front ++ bytes) → AllAreBytes (front ++ bytes) → Fetched r bytes s ts mid
    → follow (further_phrase (length bytes + n) front r) ts ≡ follow (further_phrase n (front ++ bytes) s) mid
unfolding Fetched
further_on [] front n r s ts mid wants are h =
    let none : length {A = ℕ} [] + n ≡ n = omega arith in
    ap (λ k. follow (further_phrase k front r) ts) none ∙ rw (h.0, h.1, append-nil front) refl
further_on (b ∷ bytes) front n r s ts mid wants are h =
    let join : (front ++ b ∷ []) ++ bytes ≡ front ++ b ∷ bytes = append_assoc front (b ∷ []) bytes in
    let W : List ℕ → Type 0 = WantsMore in
    let B : List ℕ → Type 0 = AllAreBytes in
    let wants_joined : WantsMore ((front ++ b ∷ []) ++ bytes) = subst W (sym join) wants in
    let are_joined : AllAreBytes ((front ++ b ∷ []) ++ bytes) = subst B (sym join) are in
    let reads : reading_of (front ++ b ∷ []) ≡ More = wants_reads (front ++ b ∷ []) (front_bytes (front ++ b ∷ []) bytes are_joined) (wanting_before (front ++ b ∷ []) bytes wants_joined) in
    let m : ℕ = length bytes + n in
    let size : length (b ∷ bytes) + n ≡ suc m = omega arith in
    let on = further_phrase m (front ++ b ∷ []) h.0 in
    ap (λ k. follow (further_phrase k front r) ts) size
    ∙ further_step m front r ts
    ∙ ap (λ v. after v (behind m front)) h.2
    ∙ ap (λ x. follow (read_on x on) h.1) reads
    ∙ further_on bytes (front ++ b ∷ []) n h.0 s h.1 mid wants_joined are_joined h.3
    ∙ ap (λ bs. follow (further_phrase n bs s) mid) join

-- how an answer is judged
abbrev judged : Result Decoded Break → List Ask → Judgement Decoded
judged (Ok d) rest = Whole d rest
judged (Err (breaks.Fault f)) rest = Faulted f rest
judged (Err (breaks.Stop s)) rest = Wrong

concludes_few : (bytes : List ℕ) (answer : Result Decoded Break) → Concludes bytes answer → length bytes ≤ 15
concludes_few bytes (Ok d) c = c.0
concludes_few bytes (Err b) (inl c) = c.0
concludes_few bytes (Err b) (inr c) = omega (arith, c.0)

-- a byte has come that bytes with an answer have next
read_answered : (n : ℕ) (front : List ℕ) (b : ℕ) (bytes : List ℕ) (answer : Result Decoded Break) (r s : Reader) (ts rest : List Ask) → length (front ++ b ∷ []) ≤ 15 → WantsMore front
    → Fetched r bytes s ts rest → Concludes ((front ++ b ∷ []) ++ bytes) answer → (x : Reading) → IsReadingOf (front ++ b ∷ []) x
    → (WantsMore (front ++ b ∷ []) → follow (further_phrase n (front ++ b ∷ []) r) ts ≡ judged answer rest)
    → follow (read_on x (further_phrase n (front ++ b ∷ []) r)) ts ≡ judged answer rest
unfolding follow
read_answered n front b bytes answer r s ts rest few wants h c (Spelled op len) said more =
    let d : Decoded = record { op = op; len = len } in
    let same = one_answer (front ++ b ∷ []) bytes (Ok d) answer (few, spelled_whole front b (front ++ b ∷ []) op len refl wants said) c in
    ap (Whole d) (sym (fetched_none bytes r s ts rest same.0 h)) ∙ ap (λ a. judged a rest) same.1
read_answered n front b bytes answer r s ts rest few wants h c (Refused at) said more =
    let undefined : Result Decoded Break = Err (breaks.Fault undefined_opcode_of) in
    let same = one_answer (front ++ b ∷ []) bytes undefined answer (inl (few, refused_at_last front b (front ++ b ∷ []) at refl wants said, refl)) c in
    ap (Faulted undefined_opcode_of) (sym (fetched_none bytes r s ts rest same.0 h)) ∙ ap (λ a. judged a rest) same.1
read_answered n front b bytes answer r s ts rest few wants h c More said more = more said

-- bytes have come that have an answer with those before them
answered : (bytes front : List ℕ) (n : ℕ) (answer : Result Decoded Break) (r s : Reader) (ts rest : List Ask) → n + length front ≡ 15 → WantsMore front → AllAreBytes (front ++ bytes)
    → Fetched r bytes s ts rest → Concludes (front ++ bytes) answer → follow (further_phrase n front r) ts ≡ judged answer rest
unfolding Fetched further_phrase follow
answered [] front zero answer r s ts rest size wants are h c =
    let none : Result Decoded Break = Err (breaks.Fault general_protection_of) in
    let same = one_answer front [] none answer (inr (omega (arith, size), wants, refl)) c in
    ap (Faulted general_protection_of) (sym h.1) ∙ ap (λ a. judged a rest) same.1
answered [] front (suc n) answer r s ts rest size wants are h c =
    let C : List ℕ → Type 0 = λ x. Concludes x answer in
    let W : List ℕ → Type 0 = λ x. WantsMore x × (length x < 15) in
    let more : WantsMore (front ++ []) × (length (front ++ []) < 15) = subst W (sym (append-nil front)) (wants, omega (arith, size)) in
    absurd (answered_wants_none front [] answer (subst C (append-nil front) c) more.0 more.1)
answered (b ∷ bytes) front zero answer r s ts rest size wants are h c =
    absurd (omega (arith, size, concludes_few (front ++ b ∷ bytes) answer c, length-append front (b ∷ bytes)))
answered (b ∷ bytes) front (suc n) answer r s ts rest size wants are h c =
    let join : (front ++ b ∷ []) ++ bytes ≡ front ++ b ∷ bytes = append_assoc front (b ∷ []) bytes in
    let C : List ℕ → Type 0 = λ x. Concludes x answer in
    let B : List ℕ → Type 0 = AllAreBytes in
    let c_joined : Concludes ((front ++ b ∷ []) ++ bytes) answer = subst C (sym join) c in
    let are_joined : AllAreBytes ((front ++ b ∷ []) ++ bytes) = subst B (sym join) are in
    let size_more : n + length (front ++ b ∷ []) ≡ 15 = one_longer n front b size in
    further_step n front r ts
    ∙ ap (λ v. after v (behind n front)) h.2
    ∙ read_answered n front b bytes answer h.0 s h.1 rest (omega (arith, size_more)) wants h.3 c_joined (reading_of (front ++ b ∷ [])) (reading_is (front ++ b ∷ []) (front_bytes (front ++ b ∷ []) bytes are_joined))
    (λ w. answered bytes (front ++ b ∷ []) n answer h.0 s h.1 rest size_more w are_joined h.3 c_joined)

-- the decoder's own answer comes behind the bytes that have it
pub decodes : (r : Reader) (ts rest : List Ask) (answer : Result Decoded Break) → DecodesTo r ts rest answer → follow (decode_phrase r) ts ≡ judged answer rest
unfolding decode_phrase
decodes r ts rest answer h = answered h.bytes [] 15 answer r h.reached ts rest refl wants_nothing (fetched_bytes h.bytes r h.reached ts rest h.fetched) h.fetched h.concludes

-- what comes where the next byte is wanted
wanted : (r : Reader) (ts : List Ask) (v : Judgement (ℕ × Reader)) (h : WantsByte r ts v) → follow (decode_phrase r) ts ≡ after v (behind (14 - length h.bytes) h.bytes)
unfolding decode_phrase
wanted r ts v h =
    let n : ℕ = 14 - length h.bytes in
    let few : length h.bytes < 15 = h.few in
    let size : 15 ≡ length h.bytes + suc n = omega (arith, few) in
    ap (λ k. follow (further_phrase k [] r) ts) size
    ∙ further_on h.bytes [] (suc n) r h.reached ts h.mid h.wants (fetched_bytes h.bytes r h.reached ts h.mid h.fetched) h.fetched
    ∙ further_step n h.bytes h.reached h.mid
    ∙ ap (λ w. after w (behind n h.bytes)) h.next

pub faults_as_byte : (r : Reader) (ts rest : List Ask) (f : Fault) → WantsByte r ts (Faulted f rest) → follow (decode_phrase r) ts ≡ Faulted f rest
faults_as_byte r ts rest f h = wanted r ts (Faulted f rest) h

pub wants_as_byte : (r : Reader) (ts : List Ask) (q : Ask) → WantsByte r ts (Wants q) → follow (decode_phrase r) ts ≡ Wants q
wants_as_byte r ts q h = wanted r ts (Wants q) h

-- the three ends, each exactly where the decoder has it
pub done_exactly : (r : Reader) (d : Decoded) (ts rest : List Ask) → (follow (decode_phrase r) ts ≡ Whole d rest) ↔ DecodesTo r ts rest (Ok d)
done_exactly r d ts rest =
    let D : Judgement Decoded → Type 0 = IsDecoding r ts in
    (λ e. subst D e (decode_is r ts), decodes r ts rest (Ok d))

faulted_from : (r : Reader) (f : Fault) (ts rest : List Ask) → DecodesTo r ts rest (Err (breaks.Fault f)) ⊎ WantsByte r ts (Faulted f rest) → follow (decode_phrase r) ts ≡ Faulted f rest
faulted_from r f ts rest (inl h) = decodes r ts rest (Err (breaks.Fault f)) h
faulted_from r f ts rest (inr h) = faults_as_byte r ts rest f h

pub faulted_exactly : (r : Reader) (f : Fault) (ts rest : List Ask) → (follow (decode_phrase r) ts ≡ Faulted f rest) ↔ (DecodesTo r ts rest (Err (breaks.Fault f)) ⊎ WantsByte r ts (Faulted f rest))
faulted_exactly r f ts rest =
    let D : Judgement Decoded → Type 0 = IsDecoding r ts in
    (λ e. subst D e (decode_is r ts), faulted_from r f ts rest)

pub wants_exactly : (r : Reader) (q : Ask) (ts : List Ask) → (follow (decode_phrase r) ts ≡ Wants q) ↔ WantsByte r ts (Wants q)
wants_exactly r q ts =
    let D : Judgement Decoded → Type 0 = IsDecoding r ts in
    (λ e. subst D e (decode_is r ts), wants_as_byte r ts q)
