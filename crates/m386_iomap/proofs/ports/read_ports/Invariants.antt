use Rattle.std.proofs.Common.{◌≡◌, false, drop}
use Rattle.m386_base.specs.declared.ask.Space.TheVariants.{Port}
use Rattle.m386_base.specs.Phrase.{Continues}
use Rattle.m386_base.specs.Split.{AreGroups}
use Rattle.m386_iomap.specs.Ports.{port_reads}
use Rattle.m386_iomap.proofs.ports.read_ports.Given as goal

abbrev pub invariant-loop-piece : goal.invariant-loop-piece
invariant-loop-piece g l =
    let view = g.B.Bus.view in
    record {
      cycles : Continues (port_reads 0 l.piece-items) (view l.fn.bus) (port_reads l.value (drop l.piece-index l.piece-items)) (view l.bus);
      free : (view l.bus).kept ≡ false;
      groups : AreGroups Port l.piece-items;
    }
