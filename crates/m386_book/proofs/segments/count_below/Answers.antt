use Rattle.std.proofs.Common.{arith, rules, ltb}
use Rattle.std.proofs.lemmas.Bool.{ltb-true, ltb-false}
use Rattle.std.proofs.lemmas.List.Sorted.{IsPartitionPoint-from_clause, IsPartitionedBy-ltb}
use Rattle.m386_book.proofs.segments.count_below.Goals as goal

pub returns-clause-below : goal.returns-clause-below
returns-clause-below c =
    let parted = IsPartitionedBy-ltb (λ y. y) _ c.args.bound c.requires in
    let point = IsPartitionPoint-from_clause (λ y. ltb y c.args.bound) _ _ c.partition_point.ensures.partitioned parted (λ a r q k. search rules) in
    λ i d h. ltb-true _ _ (point.0 i d (omega arith) h)

pub returns-clause-above : goal.returns-clause-above
returns-clause-above c =
    let parted = IsPartitionedBy-ltb (λ y. y) _ c.args.bound c.requires in
    let point = IsPartitionPoint-from_clause (λ y. ltb y c.args.bound) _ _ c.partition_point.ensures.partitioned parted (λ a r q k. search rules) in
    λ i d le h. ltb-false _ _ (point.1 i d le h)
