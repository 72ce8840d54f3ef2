use Rattle.std.proofs.Common.{◌≡◌, false, drop}
use Rattle.m386_base.specs.Phrase.{Continues}
use Rattle.m386_stack.specs.All.{pops}
use Rattle.m386_stack.proofs.all.pop_each.Given as goal

abbrev pub invariant-loop-register : goal.invariant-loop-register
invariant-loop-register g l =
    let view = g.B.Bus.view in
    record {
      cycles : Continues (pops l.first l.stack l.width l.registers) (view l.fn.bus) (pops l.p l.stack l.width (drop l.register-index l.registers)) (view l.bus);
      free : (view l.bus).kept ≡ false;
    }
