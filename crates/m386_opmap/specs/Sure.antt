-- How many bytes are surely wanted.
use Rattle.std.specs.Prelude.{◌≡◌, ℕ, ◌<◌, List, ◌++◌, length}
use Rattle.m386_opmap.specs.declared.outcome.Reading.{Reading}
use Rattle.m386_opmap.specs.declared.outcome.Reading.TheVariants.{More}

-- These bytes, and these with fewer than so many behind them, read as More.
abbrev pub IsSure : (List ℕ → Reading) → List ℕ → ℕ → Type 0
IsSure f bytes lack = (more : List ℕ) → length more < lack → f (bytes ++ more) ≡ More
