-- A gate that was read as a descriptor.
use Rattle.std.proofs.Common.{◌≡◌, ℕ, ◌^◌, ◌<◌, arith}
use Rattle.m386_desc.specs.declared.gate.Gate4.{Gate4}
use Rattle.m386_desc.specs.Bytes.{descriptor_in, two_doublewords}
use Rattle.m386_desc.specs.Gate.{gate_in}
use Rattle.m386_transfer.specs.Gate.{gate_of}

abbrev gate : ℕ → ℕ → ℕ → Gate4
gate s a c = record { selector = s; offset = a; count = c }

numbers : (s t a b c d : ℕ) → s ≡ t → a ≡ b → c ≡ d → gate s a c ≡ gate t b d
numbers s t a b c d e f h = λ i. gate (e i) (f i) (h i)

pub gate_read : (lo hi : ℕ) → lo < 2 ^ 32 → hi < 2 ^ 32 → gate_of (descriptor_in (two_doublewords lo hi)) ≡ gate_in (two_doublewords lo hi)
unfolding descriptor_in gate_in two_doublewords
gate_read lo hi l h = numbers _ _ _ _ _ _ (omega arith) (omega arith) (omega arith)
