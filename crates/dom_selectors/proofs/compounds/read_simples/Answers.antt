-- One more is read.
use Rattle.dom_selectors.proofs.Cited.{◌∙◌, simple_view}
use Rattle.dom_selectors.proofs.Shorter.{simple-ends}
use Rattle.dom_selectors.proofs.Repeats.{round-less, round-more}
use Rattle.dom_selectors.proofs.compounds.read_simples.Goals as goal

pub loop-simples-smaller : goal.loop-simples-smaller
loop-simples-smaller c = round-less simple-ends simple_view c.loop-simples.rest.now c.in_ok-simple.ensures c.in-Some.is

pub loop-simples-preserved : goal.loop-simples-preserved
loop-simples-preserved c =
    round-more simple-ends simple_view c.loop-simples.rest.now c.in_ok-simple.ensures c.in-Some.is _ c.in_ok-push.ensures.items ∙ c.loop-simples.invariant
