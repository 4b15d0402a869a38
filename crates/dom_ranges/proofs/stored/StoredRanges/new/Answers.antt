use Rattle.dom_ranges.proofs.Cited.{ap, ◌∙◌, map, range_kept}
use Rattle.dom_ranges.proofs.Holding.{ranges_of-shown}
use Rattle.dom_ranges.proofs.stored.StoredRanges.new.Goals as goal

pub returns : goal.returns
returns c = λ o. ranges_of-shown c.new.result c.new-3.result o ∙ ap (map (range_kept c.new.result)) (c.new-3.ensures o)
