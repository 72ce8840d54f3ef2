-- The digits not yet looked at go on to the number.
use Rattle.std.proofs.Common.{◌≡◌, drop, ◌<◌, ◌^◌}
use Rattle.m386_words.specs.Words.{numeral, within}
use Rattle.m386_words.proofs.number.numeral.Given as goal

abbrev pub invariant-loop-byte : goal.invariant-loop-byte
invariant-loop-byte l = (within (numeral l.base l.value (drop l.byte-index l.digits)) ≡ within (numeral l.base 0 l.digits)) × (l.value < 2 ^ 32)
