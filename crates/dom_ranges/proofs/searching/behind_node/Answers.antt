use Rattle.dom_ranges.proofs.Cited.{leb, arith, rules, leb-true, leb-false, IsPartitionPoint-from_clause, RangeEnd}
use Rattle.dom_ranges.proofs.Orders.{IsPartitionedBy-from}
use Rattle.dom_ranges.proofs.searching.behind_node.Goals as goal

pub returns-then-are_from-clause-less : goal.returns-then-are_from-clause-less
returns-then-are_from-clause-less c = λ k d l. c.are_from.ensures c.if-are_from.true k d (omega arith)

pub returns-clause-less : goal.returns-clause-less
returns-clause-less c =
    let point = IsPartitionPoint-from_clause (λ (e : RangeEnd). leb c.args.node e.node) _ _ c.partition_point.ensures.partitioned
    (IsPartitionedBy-from c.args.node _ c.requires) (λ a r q k. search rules) in
    λ k d l. leb-true _ _ (point.0 k d (omega arith) l)

pub returns-clause-more : goal.returns-clause-more
returns-clause-more c =
    let point = IsPartitionPoint-from_clause (λ (e : RangeEnd). leb c.args.node e.node) _ _ c.partition_point.ensures.partitioned
    (IsPartitionedBy-from c.args.node _ c.requires) (λ a r q k. search rules) in
    λ k d l m. leb-false _ _ (point.1 k d l m)
