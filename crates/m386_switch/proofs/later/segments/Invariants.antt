use Rattle.std.proofs.Common.{◌≡◌, false, drop}
use Rattle.m386_base.specs.Phrase.{Continues}
use Rattle.m386_switch.specs.Later.{segments, segment_order}
use Rattle.m386_switch.proofs.later.segments.Given as goal

abbrev pub invariant-loop-seg : goal.invariant-loop-seg
invariant-loop-seg g l =
    let view = g.B.Bus.view in
    record {
      cycles : Continues (segments l.gdtr l.first segment_order) (view l.fn.bus) (segments l.gdtr l.facts (drop l.seg-index segment_order)) (view l.bus);
      free : (view l.bus).kept ≡ false;
    }
