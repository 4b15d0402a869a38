-- All ask for it where those that are left do.
use Rattle.dom_selectors.proofs.Cited.{length, map, complex_view}
use Rattle.dom_selectors.specs.Known.{SelectorAsks}
use Rattle.dom_selectors.proofs.asking.all_ask.Given as goal

abbrev pub invariant-loop-rest : goal.invariant-loop-rest
invariant-loop-rest l = SelectorAsks (map complex_view l.rest) l.asked → SelectorAsks (map complex_view l.complexes) l.asked

abbrev pub decreases-loop-rest : goal.decreases-loop-rest
decreases-loop-rest l = length l.rest
