use Rattle.dom_ranges.proofs.Cited.{inl, inr, get_or, sym, arith, rules, cases_lt, IsPartitionPoint-from_clause, at, point_of}
use Rattle.dom_ranges.proofs.Orders.{is_less, less-true, not-less, IsPartitionedBy-less}
use Rattle.dom_ranges.proofs.Gathering.{is_in-between}
use Rattle.dom_ranges.proofs.searching.part_at.Goals as goal

pub returns-clause-all : goal.returns-clause-all
returns-clause-all c =
    let b = at c.args.node c.args.offset in
    let point = IsPartitionPoint-from_clause (is_less b) _ _ c.partition_point.ensures.partitioned (IsPartitionedBy-less b _ c.requires)
    (λ a r q k. search rules) in
    λ k d l e. is_in-between _ k
    (elim (cases_lt k c.partition_point.result) [
      | inl m ↦
          let x = get_or c.args.ends.now k d in
          absurd (not-less (point_of x) b e (less-true b x (point.0 k d (omega arith) m)))
      | inr m ↦ m
    ])
    (elim (cases_lt k c.place_behind.result) [
      | inl m ↦ m
      | inr m ↦ absurd (not-less b (point_of (get_or c.args.ends.now k d)) (sym e) (c.place_behind.ensures.more k d m l))
    ])
