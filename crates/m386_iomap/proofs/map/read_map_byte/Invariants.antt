use Rattle.std.proofs.Common.{◌≡◌, false, drop}
use Rattle.m386_base.specs.declared.ask.Role.TheVariants as roles
use Rattle.m386_base.specs.declared.ask.Space.TheVariants.{Memory}
use Rattle.m386_base.specs.Phrase.{Continues}
use Rattle.m386_base.specs.Split.{AreGroups}
use Rattle.m386_access.specs.Access.{reads}
use Rattle.m386_iomap.proofs.map.read_map_byte.Given as goal

abbrev pub invariant-loop-piece : goal.invariant-loop-piece
invariant-loop-piece g l =
    let view = g.B.Bus.view in
    record {
      cycles : Continues (reads roles.Map 0 l.piece-items) (view l.fn.bus) (reads roles.Map l.value (drop l.piece-index l.piece-items)) (view l.bus);
      free : (view l.bus).kept ≡ false;
      groups : AreGroups Memory l.piece-items;
    }
