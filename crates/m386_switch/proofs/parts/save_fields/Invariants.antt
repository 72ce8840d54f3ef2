use Rattle.std.proofs.Common.{◌≡◌, false, drop}
use Rattle.m386_base.specs.Phrase.{Continues}
use Rattle.m386_tss.specs.Orders.{saved_fields}
use Rattle.m386_switch.specs.Parts.{saves}
use Rattle.m386_switch.proofs.parts.save_fields.Given as goal

abbrev pub invariant-loop-number : goal.invariant-loop-number
invariant-loop-number g l =
    let view = g.B.Bus.view in
    record {
      cycles : Continues (saves l.kind l.p saved_fields) (view l.fn.bus) (saves l.kind l.p (drop l.number-index saved_fields)) (view l.bus);
      free : (view l.bus).kept ≡ false;
    }
