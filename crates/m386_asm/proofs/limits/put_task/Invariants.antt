-- The values so far stand behind the numbers before.
use Rattle.std.proofs.Common.{◌≡◌, ◌++◌, map, take}
use Rattle.m386_lines.specs.Seen.{field_seen}
use Rattle.m386_asm.specs.Layout.{task_field}
use Rattle.m386_asm.specs.Limits.{limit_seen}
use Rattle.m386_asm.proofs.limits.put_task.Given as goal

abbrev pub invariant-loop-setting : goal.invariant-loop-setting
invariant-loop-setting l = map limit_seen l.out ≡ map limit_seen l.initial.out ++ map task_field (map field_seen (take l.setting-index l.settings))
