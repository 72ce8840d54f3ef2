-- How large numbers may grow: a text has fewer than 2^32 lines, and a line takes less than 2^69 bytes.
use Rattle.std.specs.Prelude.{ℕ, ◌^◌, ◌<◌, ℤ, pos, negsuc, ◌≤ℤ◌}

-- a place
abbrev pub IsPlace : ℕ → Type 0
IsPlace n = n < 2 ^ 110

-- a name's value
abbrev pub IsNameValue : ℤ → Type 0
IsNameValue v = (negsuc (2 ^ 110) ≤ℤ v) × (v ≤ℤ pos (2 ^ 110))

-- an expression's value
abbrev pub IsValue : ℤ → Type 0
IsValue v = (negsuc (2 ^ 111) ≤ℤ v) × (v ≤ℤ pos (2 ^ 111))
