-- The words looked at stand before a mnemonic.
use Rattle.std.proofs.Common.{◌≡◌, map}
use Rattle.m386_words.specs.Tokens.{seen}
use Rattle.m386_lines.specs.Lines.{instruction_shape}
use Rattle.m386_lines.proofs.Shaped.{left_shape}
use Rattle.m386_lines.proofs.shape.instruction_shape.Given as goal

abbrev pub invariant-loop-index : goal.invariant-loop-index
invariant-loop-index l = left_shape l.prefixing l.index l.tokens ≡ instruction_shape l.fn.prefixing (map seen l.tokens)
