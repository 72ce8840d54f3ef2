-- What the second walk knows where it comes to a line.
use Rattle.std.specs.Prelude.{ℕ, ℤ, ◌≡◌, ◌++◌, ◌∷◌, ◌==◌, ◌&&◌, Bool, true, false, List, length, Option, Some, None}
use Rattle.m386_asm.specs.declared.survey.Survey.{Survey}
use Rattle.m386_asm.specs.declared.walk.Walk.{Walk}
use Rattle.m386_asm.specs.Drafts.{IsDraft}
use Rattle.m386_asm.specs.Layout.{Laid, IsLaid, end_of, is_between, memory_of, names_of, wrapped}
use Rattle.m386_asm.specs.Surveys.{IsSurveyOf}
use Rattle.m386_asm.specs.Walks.{IsNoted}

-- whether the memory has a valid size, as far as it is known
abbrev pub has_memory_size : Option ℤ → Bool
has_memory_size None = false
has_memory_size (Some size) = is_between 4096 16777216 size && wrapped 12 size == 0

-- The second walk stands behind these lines of a text. It has laid them out, where the memory has a valid size.
pub record IsWalk (ls before : List Laid) (walk : Walk) : Type 0 where
  pub lines : walk.lines ≡ length before
  pub place : walk.place ≡ end_of before
  pub noted : IsNoted ls before walk.noted
  pub makes : walk.makes ≡ has_memory_size (memory_of ls)
  pub draft : walk.makes ≡ true → IsDraft (names_of ls) before walk.draft

-- The second walk, which stands behind these lines of a text with this survey, comes to this line.
pub record IsTurn (ls before : List Laid) (l : Laid) (survey : Survey) (line : List ℕ) (walk : Walk) : Type 0 where
  pub survey_is : IsSurveyOf ls survey
  pub after : List Laid
  pub text : ls ≡ before ++ l ∷ after
  pub laid : IsLaid (names_of ls) before l
  pub line_is : l.text ≡ line
  pub walk_is : IsWalk ls before walk
