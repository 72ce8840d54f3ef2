use Rattle.std.proofs.Common.{◌≡◌, false, drop}
use Rattle.m386_base.specs.Phrase.{Continues}
use Rattle.m386_tss.specs.Orders.{loaded_fields}
use Rattle.m386_switch.specs.Parts.{loads, no_fields}
use Rattle.m386_switch.proofs.parts.load.Given as goal

abbrev pub invariant-loop-number : goal.invariant-loop-number
invariant-loop-number g l =
    let view = g.B.Bus.view in
    record {
      cycles : Continues (loads l.base no_fields loaded_fields) (view l.fn.bus) (loads l.base l.loaded (drop l.number-index loaded_fields)) (view l.bus);
      free : (view l.bus).kept ≡ false;
    }
