-- The bytes of the numbers so far stand behind those before.
use Rattle.std.proofs.Common.{◌≡◌, ◌++◌, map, take}
use Rattle.m386_opmap.specs.Forms.{width_bits}
use Rattle.m386_words.specs.Seen.{expression_seen}
use Rattle.m386_lines.specs.Directives.{Values}
use Rattle.m386_asm.specs.Knows.{Knows}
use Rattle.m386_asm.specs.Layout.{Names, directive_bytes}
use Rattle.m386_asm.proofs.bytes.put_values.Given as goal

abbrev pub invariant-loop-value : goal.invariant-loop-value
invariant-loop-value l = (ns : Names) → Knows l.names ns → l.out ≡ l.initial.out ++ directive_bytes ns (Values (width_bits l.width) (map expression_seen (take l.value-index l.values)))
