use Rattle.dom_selectors.proofs.Cited.{◌≡◌, Some, true, ap, sym, subst, ◌∙◌, simple_matches}
use Rattle.dom_selectors.specs.declared.selector.Simple.{Simple}
use Rattle.dom_selectors.specs.Views.{simple_view}
use Rattle.dom_selectors.proofs.IdQueries.{id_asked}
use Rattle.dom_selectors.proofs.by_id.id_of.Goals as goal

pub returns-in-OfId : goal.returns-in-OfId
returns-in-OfId c = λ ts x e.
    id_asked ts x c.in-OfId.id.items (subst (λ (s : Simple). simple_matches ts x (simple_view s) ≡ true) c.in-OfId.is e) ∙
    ap Some (sym c.as_slice.ensures.value)
