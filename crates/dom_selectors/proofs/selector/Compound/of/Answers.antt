-- The signs are those of what the vector holds.
use Rattle.dom_selectors.proofs.Cited.{List, and_parts, is_element, kind_of, subst, compound_view}
use Rattle.dom_selectors.specs.Signs.{PartsShow}
use Rattle.dom_selectors.specs.declared.selector.CompoundPart.{CompoundPart}
use Rattle.dom_selectors.proofs.selector.Compound.of.Goals as goal

pub invariant_of-result : goal.invariant_of-result
invariant_of-result c = λ ts x e.
    subst (λ (ps : List CompoundPart). PartsShow (compound_view ps) c.signs_of_parts-signs.result.bits) c.as_slice.ensures.value c.signs_of_parts-signs.ensures
    ts x (and_parts (is_element (kind_of ts x)) _ e).1
