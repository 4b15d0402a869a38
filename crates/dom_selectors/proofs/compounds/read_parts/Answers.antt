-- One more is read.
use Rattle.dom_selectors.proofs.Cited.{◌∙◌, part_view}
use Rattle.dom_selectors.proofs.Shorter.{part-ends}
use Rattle.dom_selectors.proofs.Repeats.{round-less, round-more}
use Rattle.dom_selectors.proofs.compounds.read_parts.Goals as goal

pub loop-parts-smaller : goal.loop-parts-smaller
loop-parts-smaller c = round-less part-ends part_view c.loop-parts.rest.now c.in_ok-part.ensures c.in-Some.is

pub loop-parts-preserved : goal.loop-parts-preserved
loop-parts-preserved c =
    round-more part-ends part_view c.loop-parts.rest.now c.in_ok-part.ensures c.in-Some.is _ c.in_ok-push.ensures.items ∙ c.loop-parts.invariant
