use Rattle.std.proofs.Common.{◌≡◌, false, drop}
use Rattle.m386_base.specs.Phrase.{Continues}
use Rattle.m386_switch.specs.Fields.{field_writes}
use Rattle.m386_switch.proofs.written.write_field_groups.Given as goal

abbrev pub invariant-loop-piece : goal.invariant-loop-piece
invariant-loop-piece g l =
    let view = g.B.Bus.view in
    record {
      cycles : Continues (field_writes l.role l.number l.value l.groups) (view l.fn.bus) (field_writes l.role l.number l.value (drop l.piece-index l.groups)) (view l.bus);
      free : (view l.bus).kept ≡ false;
    }
