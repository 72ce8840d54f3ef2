-- What a reading says of bytes of which all but the last want more.
use Rattle.std.proofs.Common.{◌≡◌, ℕ, ◌+◌, ◌<◌, ◌≤◌, List, [], ◌∷◌, ◌++◌, length, take, drop, sym, ◌∙◌, ap, arith, subst, ⊎_elim, append_assoc, length-append}
use Rattle.std.proofs.lemmas.Bool.{cases_lt}
use Rattle.std.proofs.lemmas.List.{take-append-drop, take-append-le, take_all}
use Rattle.std.proofs.lemmas.List.Elements.{All-nil}
use Rattle.m386_opmap.specs.declared.op.Op.{Op}
use Rattle.m386_opmap.specs.declared.outcome.Reading.{Reading}
use Rattle.m386_opmap.specs.declared.outcome.Reading.TheVariants.{Spelled, Refused}
use Rattle.m386_opmap.specs.Spelling.{Spells, BeginsSpelling, HasNoSpelling, IsReadingOf}
use Rattle.m386_opmap.proofs.Laws.{reading_is, reading_nothing}
use Rattle.m386_decode.specs.Decoding.{WantsMore, IsRefused}

-- no bytes yet want more
pub wants_nothing : WantsMore []
wants_nothing =
    let P : Reading → Type 0 = IsReadingOf [] in subst P reading_nothing (reading_is [] (All-nil (λ b. b < 256)))

-- what stands at the front of bytes that begin a spelling begins one
pub begins_before : (front rest : List ℕ) → BeginsSpelling (front ++ rest) → BeginsSpelling front
begins_before front rest b =
    let S : List ℕ → Type 0 = λ x. Spells b.op x in
    record { op = b.op; rest = rest ++ b.rest; spelled = subst S (append_assoc front rest b.rest) b.spelled }

-- the first bytes of those that begin a spelling begin one
begins_taken : (bytes : List ℕ) (n : ℕ) → BeginsSpelling bytes → BeginsSpelling (take n bytes)
begins_taken bytes n b =
    let B : List ℕ → Type 0 = BeginsSpelling in
    begins_before (take n bytes) (drop n bytes) (subst B (sym (take-append-drop n bytes)) b)

-- bytes with one more behind them are one longer
longer : (front : List ℕ) (last : ℕ) (bytes : List ℕ) → bytes ≡ front ++ last ∷ [] → length bytes ≡ length front + 1
longer front last bytes parts = omega (arith, ap length parts, length-append front (last ∷ []))

-- the first bytes without the last one are the first of those before it
first_of : (front : List ℕ) (last : ℕ) (bytes : List ℕ) (n : ℕ) → bytes ≡ front ++ last ∷ [] → n ≤ length front → take n bytes ≡ take n front
first_of front last bytes n parts few = ap (λ x. take n x) parts ∙ take-append-le n front (last ∷ []) few

-- a spelling at the front ends with the last byte
spelling_ends : (front : List ℕ) (last : ℕ) (bytes : List ℕ) (op : Op) (len : ℕ) → bytes ≡ front ++ last ∷ [] → HasNoSpelling front →
    len ≤ length bytes → Spells op (take len bytes) → len ≡ length bytes
spelling_ends front last bytes op len parts none within s =
    let S : List ℕ → Type 0 = λ x. Spells op x in
    ⊎_elim
    (λ (short : len < length bytes).
    let few : len ≤ length front = omega (arith, short, longer front last bytes parts) in
    absurd (none op (take len front) (drop len front) (sym (take-append-drop len front)) (subst S (first_of front last bytes len parts few) s)))
    (λ (long : length bytes ≤ len). omega (arith, long, within))
    (cases_lt len (length bytes))

pub spelled_whole : (front : List ℕ) (last : ℕ) (bytes : List ℕ) (op : Op) (len : ℕ) → bytes ≡ front ++ last ∷ [] → WantsMore front →
    IsReadingOf bytes (Spelled op len) → (len ≡ length bytes) × Spells op bytes
spelled_whole front last bytes op len parts before said =
    let S : List ℕ → Type 0 = λ x. Spells op x in
    let end : len ≡ length bytes = spelling_ends front last bytes op len parts before.0 said.0 said.1 in
    (end, subst S (take_all len bytes (omega (arith, end))) said.1)

-- a refused byte is the last
refused_ends : (front : List ℕ) (last : ℕ) (bytes : List ℕ) (at : ℕ) → bytes ≡ front ++ last ∷ [] → BeginsSpelling front →
    at < length bytes → (BeginsSpelling (take (at + 1) bytes) → ⊥) → at + 1 ≡ length bytes
refused_ends front last bytes at parts begins within after =
    let B : List ℕ → Type 0 = BeginsSpelling in
    ⊎_elim
    (λ (short : at + 1 < length bytes).
    let few : at + 1 ≤ length front = omega (arith, short, longer front last bytes parts) in
    absurd (after (subst B (sym (first_of front last bytes (at + 1) parts few)) (begins_taken front (at + 1) begins))))
    (λ (long : length bytes ≤ at + 1). omega (arith, long, within))
    (cases_lt (at + 1) (length bytes))

pub refused_at_last : (front : List ℕ) (last : ℕ) (bytes : List ℕ) (at : ℕ) → bytes ≡ front ++ last ∷ [] → WantsMore front →
    IsReadingOf bytes (Refused at) → IsRefused bytes
refused_at_last front last bytes at parts before said =
    let B : List ℕ → Type 0 = BeginsSpelling in
    let end : at + 1 ≡ length bytes = refused_ends front last bytes at parts before.1 said.1.0 said.1.1.1 in
    record {
      front = front;
      last = last;
      parts = parts;
      before = before;
      none = said.0;
      after = λ b. said.1.1.1 (subst B (sym (take_all (at + 1) bytes (omega (arith, end)))) b);
    }
