-- One more is read.
use Rattle.dom_selectors.proofs.Cited.{◌∙◌, complex_view}
use Rattle.dom_selectors.proofs.Shorter.{next-ends}
use Rattle.dom_selectors.proofs.Repeats.{round-less, round-more}
use Rattle.dom_selectors.proofs.compounds.read_nexts.Goals as goal

pub loop-complexes-smaller : goal.loop-complexes-smaller
loop-complexes-smaller c = round-less next-ends complex_view c.loop-complexes.rest.now c.in_ok-complex.ensures c.in-Some.is

pub loop-complexes-preserved : goal.loop-complexes-preserved
loop-complexes-preserved c =
    round-more next-ends complex_view c.loop-complexes.rest.now c.in_ok-complex.ensures c.in-Some.is _ c.in_ok-push-2.ensures.items ∙ c.loop-complexes.invariant
