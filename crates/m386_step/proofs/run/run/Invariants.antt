use Rattle.std.proofs.Common.{◌≡◌, false}
use Rattle.m386_step.proofs.StepLists.{SoFar}
use Rattle.m386_step.proofs.run.run.Given as goal

abbrev pub invariant-loop-made : goal.invariant-loop-made
invariant-loop-made g l =
    let view = g.B.Bus.view in
    record {
      so_far : SoFar l.fn.p (view l.fn.bus) (view l.bus) l.p l.made;
      free : (view l.bus).kept ≡ false;
    }
