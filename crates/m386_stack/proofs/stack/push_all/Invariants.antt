use Rattle.std.proofs.Common.{◌≡◌, false, drop}
use Rattle.m386_base.specs.Phrase.{Continues}
use Rattle.m386_stack.specs.Stack.{pushes}
use Rattle.m386_stack.proofs.stack.push_all.Given as goal

abbrev pub invariant-loop-value : goal.invariant-loop-value
invariant-loop-value g l =
    let view = g.B.Bus.view in
    record {
      cycles : Continues (pushes l.first l.len l.values) (view l.fn.bus) (pushes l.stack l.len (drop l.value-index l.values)) (view l.bus);
      free : (view l.bus).kept ≡ false;
    }
