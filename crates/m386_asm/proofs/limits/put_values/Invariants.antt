-- The numbers so far stand behind those before.
use Rattle.std.proofs.Common.{◌≡◌, ◌++◌, map, take}
use Rattle.m386_opmap.specs.Forms.{width_bits}
use Rattle.m386_words.specs.Expressions.{Expression}
use Rattle.m386_words.specs.Seen.{expression_seen}
use Rattle.m386_asm.specs.Limits.{limit_seen}
use Rattle.m386_asm.proofs.limits.put_values.Given as goal

abbrev pub invariant-loop-value : goal.invariant-loop-value
invariant-loop-value l = map limit_seen l.out ≡ map limit_seen l.initial.out ++ map (λ (e : Expression). (width_bits l.width, e)) (map expression_seen (take l.value-index l.values))
