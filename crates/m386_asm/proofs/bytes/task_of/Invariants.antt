-- The values so far are in their fields.
use Rattle.std.proofs.Common.{◌≡◌, length, map, take}
use Rattle.m386_lines.specs.Seen.{field_seen}
use Rattle.m386_asm.specs.Knows.{Knows}
use Rattle.m386_asm.specs.Layout.{Names, tss_bytes}
use Rattle.m386_asm.proofs.bytes.task_of.Given as goal

abbrev pub invariant-loop-setting : goal.invariant-loop-setting
invariant-loop-setting l = record {
  long : length l.segment ≡ 104;
  written : (ns : Names) → Knows l.names ns → l.segment ≡ tss_bytes ns (map field_seen (take l.setting-index l.settings));
}
