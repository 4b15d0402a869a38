-- One more shows its signs too.
use Rattle.dom_selectors.proofs.Cited.{◌≡◌, true, sym, subst, part_matches, part_view}
use Rattle.dom_selectors.specs.Signs.{Shows}
use Rattle.dom_selectors.specs.declared.selector.CompoundPart.{CompoundPart}
use Rattle.dom_selectors.proofs.Anywhere.{one_seen}
use Rattle.dom_selectors.proofs.SignLaws.{both_shown, none_shown}
use Rattle.dom_selectors.proofs.selector.signs_of_parts.Goals as goal

pub loop-part-init : goal.loop-part-init
loop-part-init c = λ ts x e. subst (Shows ts x) (sym c.none-signs.ensures) (none_shown ts x)

pub loop-part-preserved : goal.loop-part-preserved
loop-part-preserved c = λ ts x e.
    subst (Shows ts x) (sym c.and-signs.ensures) (both_shown ts x c.loop-part.signs.bits c.signs_of_part.result.bits (c.loop-part.invariant ts x e)
    (c.signs_of_part.ensures ts x (subst (λ (p : CompoundPart). part_matches ts x (part_view p) ≡ true) (sym c.part-item.is)
    (one_seen (part_matches ts x) part_view c.args.parts.now c.loop-part.part-index c.part-item.result e c.loop-part-test.true))))
