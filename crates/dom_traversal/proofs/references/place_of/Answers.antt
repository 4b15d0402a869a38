use Rattle.dom_traversal.proofs.Cited.{arith, rules, IsPartitionPoint-from_clause, reference_at}
use Rattle.dom_traversal.proofs.Standing.{is_before, before-true, before-false, IsPartitionedBy-before}
use Rattle.dom_traversal.proofs.references.place_of.Goals as goal

pub returns-clause-before : goal.returns-clause-before
returns-clause-before c =
    let y = reference_at c.args.node c.args.number in
    let point = IsPartitionPoint-from_clause (is_before y) _ _ c.partition_point.ensures.partitioned (IsPartitionedBy-before y _ c.requires)
    (λ a r q k. search rules) in
    λ k d l. before-true y _ (point.0 k d (omega arith) l)

pub returns-clause-from : goal.returns-clause-from
returns-clause-from c =
    let y = reference_at c.args.node c.args.number in
    let point = IsPartitionPoint-from_clause (is_before y) _ _ c.partition_point.ensures.partitioned (IsPartitionedBy-before y _ c.requires)
    (λ a r q k. search rules) in
    λ k d l m. before-false y _ (point.1 k d l m)
