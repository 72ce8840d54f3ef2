use Rattle.std.proofs.Common.{◌≡◌, take}
use Rattle.std.specs.List.{flat_map}
use Rattle.m386_image.specs.Format.{u32_bytes}
use Rattle.m386_gen.proofs.tables.bytes_of.Given as goal

abbrev pub invariant-loop-doubleword : goal.invariant-loop-doubleword
invariant-loop-doubleword l = l.out.items ≡ flat_map u32_bytes (take l.doubleword-index l.doublewords)
