use Rattle.std.proofs.Common.{◌≡◌, ◌-◌, ◌*◌, ◌≤◌, ◌++◌, length}
use Rattle.m386_image.specs.Format.{entries}
use Rattle.m386_image.proofs.plan.plan_of.Given as goal

abbrev pub invariant-loop : goal.invariant-loop
invariant-loop l = record {
  room : 8 * (l.count - l.counter) ≤ length l.rest;
  same : entries l.count l.bytes ≡ l.plan ++ entries (l.count - l.counter) l.rest;
}
