use Rattle.std.proofs.Common.{◌≡◌, ◌-◌, ◌*◌, ◌≤◌, length}
use Rattle.m386_image.specs.Format.{entries, are_ordered}
use Rattle.m386_image.proofs.plan.is_ordered.Given as goal

abbrev pub invariant-loop : goal.invariant-loop
invariant-loop l = record {
  room : 8 * (l.count - l.counter) ≤ length l.rest;
  same : are_ordered l.cpus 0 (entries l.count l.bytes) ≡ are_ordered l.cpus l.least (entries (l.count - l.counter) l.rest);
}
