-- The signs are those of what the vector holds.
use Rattle.dom_selectors.proofs.Cited.{subst}
use Rattle.dom_selectors.specs.declared.selector.Simple.{Simple}
use Rattle.std.specs.Prelude.{List}
use Rattle.dom_selectors.specs.Signs.{SimplesShow}
use Rattle.dom_selectors.specs.Views.{simples_view}
use Rattle.dom_selectors.proofs.selector.Simples.of.Goals as goal

pub invariant_of-result : goal.invariant_of-result
invariant_of-result c =
    subst (λ (ss : List Simple). SimplesShow (simples_view ss) c.signs_of_all-signs.result.bits) c.as_slice.ensures.value c.signs_of_all-signs.ensures
