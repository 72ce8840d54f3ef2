-- Masks of numbers.
use Rattle.std.proofs.Common.{◌≡◌, ℕ, bit_and, ap, ◌∙◌}
use Rattle.std.proofs.lemmas.Nat.{and_assoc}
use Rattle.std.specs.Int.Bits.{and_self}

-- to clear twice what a mask clears is to clear it once
pub and_twice : (a m : ℕ) → bit_and (bit_and a m) m ≡ bit_and a m
and_twice a m = and_assoc m a m ∙ ap (bit_and a) (and_self m)
