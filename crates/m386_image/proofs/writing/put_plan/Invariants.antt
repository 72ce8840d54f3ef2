use Rattle.std.proofs.Common.{◌≡◌, ◌++◌, take}
use Rattle.std.specs.List.{flat_map}
use Rattle.m386_image.specs.Format.{entry_text}
use Rattle.m386_image.proofs.writing.put_plan.Given as goal

abbrev pub invariant-loop-entry : goal.invariant-loop-entry
invariant-loop-entry l = l.out.items ≡ l.initial.out.items ++ flat_map entry_text (take l.entry-index l.plan)
