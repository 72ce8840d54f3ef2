-- A step that was run ahead.
use Rattle.std.specs.Prelude.{ℕ, Bool, true, false, List, [], ◌∷◌, ◌&&◌, eqb, if◌then◌else◌}
use Rattle.m386_base.specs.declared.ask.Ask.{Ask}
use Rattle.m386_base.specs.Phrase.{answer_of}
use Rattle.m386_base.specs.Replay.{answer_told}

-- each cycle that has a value in its place was answered it
unfoldable pub agrees : List Ask → List ℕ → Bool
agrees [] vs = true
agrees (t ∷ ts) [] = true
agrees (t ∷ ts) (v ∷ vs) = eqb (answer_of t) (answer_told t v) && agrees ts vs

-- the first of these cycles is joined to the cycle before it
unfoldable pub first_joined : List Ask → Bool
first_joined [] = false
first_joined (t ∷ ts) = t.joined

-- a cycle as it is asked for
abbrev pub asked_of : Ask → Ask
asked_of t = if t.write then t else record t { value = 0 }
