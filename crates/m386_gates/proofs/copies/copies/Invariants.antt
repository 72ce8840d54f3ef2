use Rattle.std.proofs.Common.{◌≡◌, false}
use Rattle.m386_base.specs.Phrase.{Continues}
use Rattle.m386_gates.specs.Copies.{copies_phrase}
use Rattle.m386_gates.proofs.copies.copies.Given as goal

abbrev pub invariant-loop-left : goal.invariant-loop-left
invariant-loop-left g l =
    let view = g.B.Bus.view in
    record {
      cycles : Continues (copies_phrase l.p l.count l.first) (view l.fn.bus) (copies_phrase l.p l.left l.stack) (view l.bus);
      free : (view l.bus).kept ≡ false;
    }

abbrev pub decreases-loop-left : goal.decreases-loop-left
decreases-loop-left g l = l.left
