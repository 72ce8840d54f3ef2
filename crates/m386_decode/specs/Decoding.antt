-- What a decoder answers, by the bytes that its source gave.
use Rattle.std.specs.Prelude.{ℕ, ◌≡◌, ◌<◌, ◌≤◌, List, [], ◌∷◌, ◌++◌, length, Result, Ok, Err, ◌⊎◌}
use Rattle.m386_base.specs.declared.fault.Break.{Break}
use Rattle.m386_base.specs.declared.fault.Break.TheVariants as breaks
use Rattle.m386_base.specs.Exceptions.{undefined_opcode_of, general_protection_of}
use Rattle.m386_opmap.specs.Spelling.{Spells, BeginsSpelling, HasNoSpelling}
use Rattle.m386_decode.specs.declared.decoded.Decoded.{Decoded}

-- Some spelling begins with these bytes, and none stands at their front.
-- Own choice: docs/DECISIONS.md, "Where bytes are refused"
abbrev pub WantsMore : List ℕ → Type 0
WantsMore bytes = HasNoSpelling bytes × BeginsSpelling bytes

-- The last of these bytes is the first after which no spelling begins so.
-- Own choice: docs/DECISIONS.md, "Where bytes are refused"
pub record IsRefused (bytes : List ℕ) : Type 0 where
  pub front : List ℕ
  pub last : ℕ
  pub parts : bytes ≡ front ++ last ∷ []
  pub before : WantsMore front
  pub none : HasNoSpelling bytes
  pub after : BeginsSpelling bytes → ⊥

-- The bytes are the spelling of what was decoded.
-- Source: Intel 80386 PRM 17.2
abbrev pub IsDecoded : List ℕ → Decoded → Type 0
IsDecoded bytes d = (d.len ≡ length bytes) × Spells d.op bytes

-- A decoder's own answer behind these bytes, at most 15: the operation that they spell; #UD where the last of them is
-- refused; or #GP(0) where they are 15 and want a sixteenth.
-- Own choice: docs/DECISIONS.md, "What the decoder answers"
abbrev pub Concludes : List ℕ → Result Decoded Break → Type 0
Concludes bytes (Ok d) = (length bytes ≤ 15) × IsDecoded bytes d
Concludes bytes (Err b) =
    ((length bytes ≤ 15) × IsRefused bytes × (b ≡ breaks.Fault undefined_opcode_of))
    ⊎ ((length bytes ≡ 15) × WantsMore bytes × (b ≡ breaks.Fault general_protection_of))

-- The answer of a decoder's own that comes behind a front of these bytes.
-- Own choice: docs/DECISIONS.md, "What the decoder answers"
pub record IsAnswered (bytes : List ℕ) (answer : Result Decoded Break) : Type 0 where
  pub front : List ℕ
  pub rest : List ℕ
  pub parts : bytes ≡ front ++ rest
  pub concludes : Concludes front answer

-- The source gave bytes behind which the decoder has this answer of its own, and gave no more.
-- Own choice: docs/DECISIONS.md, "What the decoder answers"
pub record Concluded {S : Type 0} (Gave : S → S → List ℕ → Type 0) (old new : S) (answer : Result Decoded Break) : Type 0 where
  pub bytes : List ℕ
  pub gave : Gave old new bytes
  pub concludes : Concludes bytes answer

-- The source gave fewer than 15 bytes, which want more, and answered this break when it was asked for the next.
-- Own choice: docs/DECISIONS.md, "What the decoder answers"
pub record BrokenOff {S : Type 0} (Gave : S → S → List ℕ → Type 0) (Broke : S → S → Break → Type 0) (old new : S) (b : Break) : Type 0 where
  pub bytes : List ℕ
  pub few : length bytes < 15
  pub wants : WantsMore bytes
  pub reached : S
  pub gave : Gave old reached bytes
  pub broke : Broke reached new b
