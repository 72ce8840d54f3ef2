use Rattle.std.proofs.Common.{arith, rules, leb}
use Rattle.std.proofs.lemmas.Bool.{leb-true, leb-false}
use Rattle.std.proofs.lemmas.List.Sorted.{IsPartitionPoint-from_clause, IsPartitionedBy-leb}
use Rattle.m386_book.proofs.segments.count_upto.Goals as goal

pub returns-clause-upto : goal.returns-clause-upto
returns-clause-upto c =
    let parted = IsPartitionedBy-leb (λ y. y) _ c.args.bound c.requires in
    let point = IsPartitionPoint-from_clause (λ y. leb y c.args.bound) _ _ c.partition_point.ensures.partitioned parted (λ a r q k. search rules) in
    λ i d h. leb-true _ _ (point.0 i d (omega arith) h)

pub returns-clause-above : goal.returns-clause-above
returns-clause-above c =
    let parted = IsPartitionedBy-leb (λ y. y) _ c.args.bound c.requires in
    let point = IsPartitionPoint-from_clause (λ y. leb y c.args.bound) _ _ c.partition_point.ensures.partitioned parted (λ a r q k. search rules) in
    λ i d le h. leb-false _ _ (point.1 i d le h)
