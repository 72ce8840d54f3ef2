-- Choices of what may be missing.
use Rattle.std.specs.Prelude.{List, [], ◌∷◌, Option, Some, None}
use Rattle.std.specs.Option.{option_map}

-- what f gives of what there is
abbrev pub option_then : {A B : Type 0} → Option A → (A → Option B) → Option B
option_then None f = None
option_then (Some a) f = f a

-- what there is, or else the other
abbrev pub option_else : {A : Type 0} → Option A → Option A → Option A
option_else None other = other
option_else (Some a) other = Some a

-- each of these
unfoldable pub all_some : {A : Type 0} → List (Option A) → Option (List A)
all_some [] = Some []
all_some (None ∷ os) = None
all_some (Some x ∷ os) = option_map (λ xs. x ∷ xs) (all_some os)
