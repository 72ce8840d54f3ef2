use Rattle.std.proofs.Common.{◌≡◌, ◌≤◌, drop}
use Rattle.std.specs.Str.{all_ascii_digits}
use Rattle.m386_calls.specs.Words.{digits_on}
use Rattle.m386_calls.proofs.number.number.Given as goal

abbrev pub invariant-loop-byte : goal.invariant-loop-byte
invariant-loop-byte l = record {
  within : l.value ≤ l.most;
  digits : all_ascii_digits l.text ≡ all_ascii_digits (drop l.byte-index l.text);
  value : digits_on 0 l.text ≡ digits_on l.value (drop l.byte-index l.text);
}
