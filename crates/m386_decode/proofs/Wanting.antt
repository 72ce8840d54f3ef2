-- Bytes that are surely wanted.
use Rattle.std.proofs.Common.{◌≡◌, ℕ, ◌-◌, ◌<◌, List, [], ◌∷◌, ◌++◌, ◌∙◌, ap, arith, subst, append_assoc}
use Rattle.m386_opmap.specs.declared.outcome.Reading.{Reading}
use Rattle.m386_opmap.specs.declared.outcome.Reading.TheVariants.{More}
use Rattle.m386_opmap.specs.Readings.{reading_of}
use Rattle.m386_opmap.specs.Spelling.{IsReadingOf}
use Rattle.m386_opmap.specs.Sure.{IsSure}
use Rattle.m386_opmap.proofs.Laws.{reading_is}
use Rattle.m386_opmap.proofs.Sound.{AllAreBytes}
use Rattle.m386_decode.specs.Decoding.{WantsMore}

-- at first nothing is known
pub sure_none : (f : List ℕ → Reading) (bytes : List ℕ) → IsSure f bytes 0
sure_none f bytes more few = absurd (omega arith)

-- one of the bytes that were wanted came
pub sure_less : (f : List ℕ → Reading) (bytes : List ℕ) (byte lack : ℕ) → IsSure f bytes lack → 1 < lack → IsSure f (bytes ++ byte ∷ []) (lack - 1)
sure_less f bytes byte lack h l more few = ap f (append_assoc bytes (byte ∷ []) more) ∙ h (byte ∷ more) (omega arith)

-- bytes behind which more are surely wanted want more
pub sure_wants : (bytes : List ℕ) (byte lack : ℕ) → IsSure reading_of bytes lack → 1 < lack → AllAreBytes (bytes ++ byte ∷ []) → WantsMore (bytes ++ byte ∷ [])
sure_wants bytes byte lack h l are =
    let e : reading_of (bytes ++ byte ∷ []) ≡ More = h (byte ∷ []) (omega arith) in
    let P : Reading → Type 0 = IsReadingOf (bytes ++ byte ∷ []) in
    subst P e (reading_is (bytes ++ byte ∷ []) are)
