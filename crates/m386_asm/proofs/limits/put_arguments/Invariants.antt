-- The numbers of the operands so far stand behind those before.
use Rattle.std.proofs.Common.{◌≡◌, ◌++◌, map, take}
use Rattle.std.specs.List.{flat_map}
use Rattle.m386_lines.specs.Seen.{argument_seen}
use Rattle.m386_asm.specs.Layout.{arg_fields}
use Rattle.m386_asm.specs.Limits.{limit_seen}
use Rattle.m386_asm.proofs.limits.put_arguments.Given as goal

abbrev pub invariant-loop-argument : goal.invariant-loop-argument
invariant-loop-argument l = map limit_seen l.out ≡ map limit_seen l.initial.out ++ flat_map arg_fields (map argument_seen (take l.argument-index l.arguments))
