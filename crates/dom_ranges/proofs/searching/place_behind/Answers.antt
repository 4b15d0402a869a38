use Rattle.dom_ranges.proofs.Cited.{get_or, arith, rules, IsPartitionPoint-from_clause, at}
use Rattle.dom_ranges.proofs.Orders.{is_at_most, at_most-true, at_most-false, IsPartitionedBy-at_most}
use Rattle.dom_ranges.proofs.searching.place_behind.Goals as goal

pub returns-clause-less : goal.returns-clause-less
returns-clause-less c =
    let b = at c.args.node c.args.offset in
    let point = IsPartitionPoint-from_clause (is_at_most b) _ _ c.partition_point.ensures.partitioned (IsPartitionedBy-at_most b _ c.requires)
    (λ a r q k. search rules) in
    λ k d l. at_most-true b (get_or c.args.ends.now k d) (point.0 k d (omega arith) l)

pub returns-clause-more : goal.returns-clause-more
returns-clause-more c =
    let b = at c.args.node c.args.offset in
    let point = IsPartitionPoint-from_clause (is_at_most b) _ _ c.partition_point.ensures.partitioned (IsPartitionedBy-at_most b _ c.requires)
    (λ a r q k. search rules) in
    λ k d l m. at_most-false b (get_or c.args.ends.now k d) (point.1 k d l m)
