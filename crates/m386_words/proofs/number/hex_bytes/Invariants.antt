-- The bytes so far stand before those of the digits left.
use Rattle.std.proofs.Common.{◌≡◌, length}
use Rattle.m386_words.specs.Words.{bytes_of_digits}
use Rattle.m386_words.proofs.Pairs.{behind}
use Rattle.m386_words.proofs.number.hex_bytes.Given as goal

abbrev pub invariant-loop-rest : goal.invariant-loop-rest
invariant-loop-rest l = behind l.bytes (bytes_of_digits l.rest) ≡ bytes_of_digits l.word

abbrev pub decreases-loop-rest : goal.decreases-loop-rest
decreases-loop-rest l = length l.rest
