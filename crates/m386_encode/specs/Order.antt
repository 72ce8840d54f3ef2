-- The order of spellings: by their lengths, and then by their bytes.
use Rattle.std.specs.Prelude.{ℕ, ◌==◌, nat_lt, Bool, false, ◌&&◌, ◌||◌, List, [], ◌∷◌, length}

-- whether the bytes of the first, compared in order, are less
unfoldable pub is_less : List ℕ → List ℕ → Bool
is_less [] ys = false
is_less (x ∷ xs) [] = false
is_less (x ∷ xs) (y ∷ ys) = nat_lt x y || x == y && is_less xs ys

-- Whether a string of bytes is shorter than another, or as long and less.
-- Own choice: docs/DECISIONS.md, "Which spelling is written"
unfoldable pub is_before : List ℕ → List ℕ → Bool
is_before xs ys = nat_lt (length xs) (length ys) || length xs == length ys && is_less xs ys
