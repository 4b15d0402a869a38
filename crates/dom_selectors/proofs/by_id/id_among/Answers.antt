use Rattle.dom_selectors.proofs.Cited.{◌≡◌, true, sym, subst}
use Rattle.dom_model.specs.Selectors.{part_matches}
use Rattle.dom_selectors.specs.declared.selector.CompoundPart.{CompoundPart}
use Rattle.dom_selectors.specs.Views.{part_view}
use Rattle.dom_selectors.proofs.IdQueries.{part_asked}
use Rattle.dom_selectors.proofs.by_id.id_among.Goals as goal

pub returns-in-Some : goal.returns-in-Some
returns-in-Some c = λ ts x e.
    c.in-Some.ensures ts x (subst (λ (p : CompoundPart). part_matches ts x (part_view p) ≡ true) (sym c.part-item.is)
    (part_asked ts x c.args.parts.now c.loop-part.part-index c.part-item.result e c.loop-part-test.true))
