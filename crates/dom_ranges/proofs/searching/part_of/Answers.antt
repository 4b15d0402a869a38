use Rattle.dom_ranges.proofs.Cited.{false, inl, inr, ℕ, ◌<◌, ◌≤◌, ltb, length, get_or, arith, rules, ltb-true, ltb-false, cases_lt}
use Rattle.dom_ranges.proofs.Cited.{IsPartitionPoint-from_clause, at, end_in, RangeEnd}
use Rattle.dom_ranges.proofs.Orders.{IsPartitionedBy-past}
use Rattle.dom_ranges.proofs.Gathering.{is_in-between}
use Rattle.dom_ranges.proofs.searching.part_of.Goals as goal

-- the ends before the part are at greater nodes
before : (c : goal.After-behind_node) → (k : ℕ) (d : RangeEnd) → k < c.partition_point.result → c.args.node < (get_or c.args.ends.now k d).node
before c k d l = ltb-true _ _
    ((IsPartitionPoint-from_clause (λ (e : RangeEnd). ltb c.args.node e.node) _ _ c.partition_point.ensures.partitioned
    (IsPartitionedBy-past c.args.node _ c.requires) (λ a r q k. search rules)).0 k d (omega arith) l)

-- the others are not
from : (c : goal.After-behind_node) → (k : ℕ) (d : RangeEnd) → c.partition_point.result ≤ k → k < length c.args.ends.now →
    (get_or c.args.ends.now k d).node ≤ c.args.node
from c k d l m = ltb-false _ _
    ((IsPartitionPoint-from_clause (λ (e : RangeEnd). ltb c.args.node e.node) _ _ c.partition_point.ensures.partitioned
    (IsPartitionedBy-past c.args.node _ c.requires) (λ a r q k. search rules)).1 k d l m)

pub returns-clause-order : goal.returns-clause-order
returns-clause-order c = elim (cases_lt c.behind_node.result c.partition_point.result) [
  | inl l ↦
      let d = end_in 0 false (at 0 0) in
      absurd (omega (
        arith,
        before c c.behind_node.result d l,
        c.behind_node.ensures.more c.behind_node.result d (omega arith) (omega (arith, l, c.partition_point.ensures.bound)),
      ))
  | inr l ↦ l
]

pub returns-clause-all : goal.returns-clause-all
returns-clause-all c = λ k d l e. is_in-between _ k
    (elim (cases_lt k c.partition_point.result) [ inl m ↦ absurd (omega (arith, e, before c k d m)) | inr m ↦ m ])
    (elim (cases_lt k c.behind_node.result) [ inl m ↦ m | inr m ↦ absurd (omega (arith, e, c.behind_node.ensures.more k d m l)) ])

pub returns-clause-only : goal.returns-clause-only
returns-clause-only c = λ k d l m. omega (arith, from c k d l (omega (arith, m, c.behind_node.ensures.within)), c.behind_node.ensures.less k d m)
