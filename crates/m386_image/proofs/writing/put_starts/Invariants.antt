use Rattle.std.proofs.Common.{◌≡◌, ◌++◌, take}
use Rattle.std.specs.List.{flat_map}
use Rattle.m386_image.specs.Format.{u32_bytes}
use Rattle.m386_image.proofs.writing.put_starts.Given as goal

abbrev pub invariant-loop-start : goal.invariant-loop-start
invariant-loop-start l = l.out.items ≡ l.initial.out.items ++ flat_map u32_bytes (take l.start-index l.starts)
