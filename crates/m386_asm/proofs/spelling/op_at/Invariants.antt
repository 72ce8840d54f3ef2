-- The operands so far are those of the arguments that were looked at.
use Rattle.std.proofs.Common.{◌≡◌, ◌≤◌, length, map, take}
use Rattle.m386_lines.specs.Seen.{argument_seen}
use Rattle.m386_asm.specs.Knows.{Knows}
use Rattle.m386_asm.specs.Layout.{Names, arg_at}
use Rattle.m386_asm.proofs.spelling.op_at.Given as goal

abbrev pub invariant-loop-argument : goal.invariant-loop-argument
invariant-loop-argument l = record {
  made : (ns : Names) → Knows l.names ns → l.args.items ≡ map (arg_at ns l.end) (map argument_seen (take l.argument-index l.argument-items));
  count : length l.args.items ≡ l.argument-index;
  few : length l.argument-items ≤ 3;
  whole : l.argument-items ≡ l.instruction.args.items;
}
