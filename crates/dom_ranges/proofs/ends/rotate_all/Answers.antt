use Rattle.dom_ranges.proofs.Cited.{IsPermutation-put_mid}
use Rattle.dom_ranges.proofs.Gathering.{IsTurned-rotated}
use Rattle.dom_ranges.proofs.ends.rotate_all.Goals as goal

pub returns-clause-turned : goal.returns-clause-turned
returns-clause-turned c = IsTurned-rotated c.rotate_left.new.self c.requires.order.0
    c.requires.order.1 c.requires.within c.rotate_left.ensures.by_index c.rotate_left.ensures.len

pub returns-clause-permutation : goal.returns-clause-permutation
returns-clause-permutation c = IsPermutation-put_mid c.args.first _ c.args.ends.now c.rotate_left.new.self c.rotate_left.ensures.permutation
