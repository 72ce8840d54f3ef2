-- The numbers so far stand behind those before.
use Rattle.std.proofs.Common.{◌≡◌, ◌++◌, map, take}
use Rattle.m386_asm.specs.Limits.{limit_seen}
use Rattle.m386_asm.proofs.limits.put.Given as goal

abbrev pub invariant-loop-field : goal.invariant-loop-field
invariant-loop-field l = map limit_seen l.out ≡ map limit_seen l.initial.out ++ map limit_seen (take l.field-index l.fields)
