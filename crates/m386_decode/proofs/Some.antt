-- Of any fifteen bytes some front has an answer.
use Rattle.std.proofs.Common.{◌≡◌, ℕ, ◌≤◌, ◌⊎◌, inl, inr, List, [], ◌∷◌, ◌++◌, length, Result, Ok, Err, refl, sym, ◌∙◌, ap, arith, subst, ⊎_elim, append_assoc, length-append}
use Rattle.std.proofs.lemmas.List.{append-nil}
use Rattle.m386_base.specs.declared.fault.Break.{Break}
use Rattle.m386_opmap.specs.declared.outcome.Reading.{Reading}
use Rattle.m386_opmap.specs.declared.outcome.Reading.TheVariants.{Spelled, More, Refused}
use Rattle.m386_opmap.specs.Readings.{reading_of}
use Rattle.m386_opmap.specs.Spelling.{IsReadingOf}
use Rattle.m386_opmap.proofs.Laws.{reading_is}
use Rattle.m386_opmap.proofs.Sound.{AllAreBytes, front_bytes}
use Rattle.m386_decode.specs.declared.decoded.Decoded.{Decoded}
use Rattle.m386_decode.specs.Decoding.{WantsMore, Concludes, IsAnswered}
use Rattle.m386_base.specs.declared.fault.Break.TheVariants as breaks
use Rattle.m386_base.specs.Exceptions.{undefined_opcode_of, general_protection_of}
use Rattle.m386_decode.proofs.Concluding.{wants_nothing, spelled_whole, refused_at_last}

-- some answer comes behind the bytes
abbrev HasAnswer : List ℕ → Type 0
HasAnswer bytes = (answer : Result Decoded Break) × Concludes bytes answer

-- one byte behind bytes that want more
one_more : (front : List ℕ) (b : ℕ) (x : Reading) → WantsMore front → length (front ++ b ∷ []) ≤ 15 → IsReadingOf (front ++ b ∷ []) x
    → HasAnswer (front ++ b ∷ []) ⊎ WantsMore (front ++ b ∷ [])
one_more front b (Spelled op len) wants few said =
    let d : Decoded = record { op = op; len = len } in
    inl (Ok d, (few, spelled_whole front b (front ++ b ∷ []) op len refl wants said))
one_more front b (Refused at) wants few said = inl (Err (breaks.Fault undefined_opcode_of), inl (few, refused_at_last front b (front ++ b ∷ []) at refl wants said, refl))
one_more front b More wants few said = inr said

-- some front of the bytes has an answer
abbrev AnswerAmong : List ℕ → Type 0
AnswerAmong bytes = (answer : Result Decoded Break) × IsAnswered bytes answer

answer_among : (front rest : List ℕ) → WantsMore front → AllAreBytes (front ++ rest) → length (front ++ rest) ≡ 15 → AnswerAmong (front ++ rest)
answer_among front [] wants are size =
    let whole : length front ≡ 15 = ap length (sym (append-nil front)) ∙ size in
    (Err (breaks.Fault general_protection_of), record { front = front; rest = []; parts = refl; concludes = inr (whole, wants, refl) })
answer_among front (b ∷ rest) wants are size =
    let join : (front ++ b ∷ []) ++ rest ≡ front ++ b ∷ rest = append_assoc front (b ∷ []) rest in
    let P : List ℕ → Type 0 = AllAreBytes in
    let Q : List ℕ → Type 0 = AnswerAmong in
    let whole : AllAreBytes ((front ++ b ∷ []) ++ rest) = subst P (sym join) are in
    let sizes : length ((front ++ b ∷ []) ++ rest) ≡ 15 = ap length join ∙ size in
    let few : length (front ++ b ∷ []) ≤ 15 = omega (arith, sizes, length-append (front ++ b ∷ []) rest) in
    ⊎_elim
    (λ (a : HasAnswer (front ++ b ∷ [])). (a.0, record { front = front ++ b ∷ []; rest = rest; parts = sym join; concludes = a.1 }))
    (λ (more : WantsMore (front ++ b ∷ [])). subst Q join (answer_among (front ++ b ∷ []) rest more whole sizes))
    (one_more front b (reading_of (front ++ b ∷ [])) wants few (reading_is (front ++ b ∷ []) (front_bytes (front ++ b ∷ []) rest whole)))

-- of fifteen bytes some front has an answer
pub some_answer : (bytes : List ℕ) → length bytes ≡ 15 → AllAreBytes bytes → (answer : Result Decoded Break) × IsAnswered bytes answer
some_answer bytes size are = answer_among [] bytes wants_nothing are size
