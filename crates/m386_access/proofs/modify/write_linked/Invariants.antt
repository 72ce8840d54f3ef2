use Rattle.std.proofs.Common.{◌≡◌, ◌<◌, ◌≤◌, false, drop, length}
use Rattle.m386_base.specs.Phrase.{Continues}
use Rattle.m386_access.specs.Modify.{linked_writes}
use Rattle.m386_access.proofs.modify.write_linked.Given as goal

abbrev pub invariant-loop-i : goal.invariant-loop-i
invariant-loop-i g l =
    let view = g.B.Bus.view in
    record {
      cycles : Continues (linked_writes l.lock l.value l.groups) (view l.fn.bus) (linked_writes l.lock l.value (drop l.i l.groups)) (view l.bus);
      kept : l.i < length l.groups → (view l.bus).kept ≡ l.lock;
      free : length l.groups ≤ l.i → (view l.bus).kept ≡ false;
    }
