-- The bytes so far were given, and want more.
use Rattle.std.proofs.Common.{◌≡◌, ◌-◌, ◌≤◌, length}
use Rattle.m386_opmap.specs.Readings.{reading_of}
use Rattle.m386_opmap.specs.Sure.{IsSure}
use Rattle.m386_decode.specs.Decoding.{WantsMore}
use Rattle.m386_decode.proofs.decode.decode.Given as goal

abbrev pub invariant-loop-bytes : goal.invariant-loop-bytes
invariant-loop-bytes g l = record {
  gave : g.S.ByteSource.gave l.initial.source l.source l.bytes.items;
  wants : WantsMore l.bytes.items;
  sure : IsSure reading_of l.bytes.items l.lack;
  few : length l.bytes.items ≤ 15;
  newer : g.S.ByteSource.counts_newer l.source ≡ g.S.ByteSource.counts_newer l.initial.source;
}

abbrev pub decreases-loop-bytes : goal.decreases-loop-bytes
decreases-loop-bytes g l = 15 - length l.bytes.items
