-- A phrase over values that are given.
use Rattle.std.specs.Prelude.{◌≡◌, ℕ, ◌+◌, Bool, true, false, List, [], ◌∷◌, if◌then◌else◌, bit_and, eqb, ◌&&◌}
use Rattle.m386_base.specs.declared.ask.Ask.{Ask}
use Rattle.m386_base.specs.declared.fault.Fault.{Fault}
use Rattle.m386_base.specs.Bus.{mask}
use Rattle.m386_base.specs.Phrase.{Phrase, Done, Faults, Asks, Begins, answer_of}

-- of a value only the enabled bytes count, and a write hears nothing
unfoldable pub answer_told : Ask → ℕ → ℕ
answer_told q v = if q.write then 0 else bit_and v (mask q.enables)

pub data Replay (A : Type 0) : Type 0 where
  Found : A → ℕ → Replay A
  FoundFault : Fault → ℕ → Replay A
  Lacks : Ask → Replay A

abbrev pub one_more : {A : Type 0} → Replay A → Replay A
one_more (Found a n) = Found a (n + 1)
one_more (FoundFault f n) = FoundFault f (n + 1)
one_more (Lacks q) = Lacks q

-- what a phrase comes to over these values, and how many of them it uses
unfoldable pub replay : {A : Type 0} → Phrase A → List ℕ → Replay A
replay (Done a) vs = Found a 0
replay (Faults f) vs = FoundFault f 0
replay (Begins m t) vs = replay t vs
replay (Asks q k) [] = Lacks q
replay (Asks q k) (v ∷ vs) = one_more (replay (k (answer_told q v)) vs)

-- each cycle was answered the value in its place
abbrev pub AreTold : List Ask → List ℕ → Type 0
AreTold [] vs = Unit {0}
AreTold (t ∷ ts) [] = ⊥
AreTold (t ∷ ts) (v ∷ vs) = (answer_of t ≡ answer_told t v) × AreTold ts vs

-- the same as a test
unfoldable pub are_told : List Ask → List ℕ → Bool
are_told [] vs = true
are_told (t ∷ ts) [] = false
are_told (t ∷ ts) (v ∷ vs) = eqb (answer_of t) (answer_told t v) && are_told ts vs
