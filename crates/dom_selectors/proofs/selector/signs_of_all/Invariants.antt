-- Where all match, those that were passed show the signs.
use Rattle.dom_selectors.proofs.Cited.{◌≡◌, true, list_all, Trees, NodeName, simple_matches}
use Rattle.dom_selectors.specs.Signs.{Shows}
use Rattle.dom_selectors.specs.Views.{simples_view}
use Rattle.dom_selectors.proofs.selector.signs_of_all.Given as goal

abbrev pub invariant-loop-simple : goal.invariant-loop-simple
invariant-loop-simple l = (ts : Trees) (x : NodeName) → list_all (simple_matches ts x) (simples_view l.simples) ≡ true → Shows ts x l.signs.bits
