use Rattle.dom_ranges.proofs.Cited.{rules, IsPermutation-put_mid, IsNonDecreasingBy-from_sort_by_key, offset_of}
use Rattle.dom_ranges.proofs.Placing.{IsSortedByPoint-ordered}
use Rattle.dom_ranges.proofs.ends.put_in_order.Goals as goal

pub returns-clause-permutation : goal.returns-clause-permutation
returns-clause-permutation c = IsPermutation-put_mid c.part_of-part.result.first _ _ _ c.sort_unstable_by_key.ensures.permutation

pub returns-clause-sorted : goal.returns-clause-sorted
returns-clause-sorted c =
    IsSortedByPoint-ordered c.args.ends.now c.sort_unstable_by_key.new.self c.args.node c.part_of-part.result c.part_of-part.ensures.order
    c.part_of-part.ensures.within c.part_of-part.ensures.all c.part_of-part.ensures.only c.sort_unstable_by_key.ensures.permutation c.requires
    (IsNonDecreasingBy-from_sort_by_key offset_of _ c.sort_unstable_by_key.ensures.sorted (λ a r q k. search rules))
