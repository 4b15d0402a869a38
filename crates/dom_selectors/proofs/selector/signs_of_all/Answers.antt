-- One more shows its signs too.
use Rattle.dom_selectors.proofs.Cited.{◌≡◌, true, sym, subst, simple_matches, simple_view}
use Rattle.dom_selectors.specs.Signs.{Shows}
use Rattle.dom_selectors.specs.declared.selector.Simple.{Simple}
use Rattle.dom_selectors.proofs.Anywhere.{one_seen}
use Rattle.dom_selectors.proofs.SignLaws.{both_shown, none_shown}
use Rattle.dom_selectors.proofs.selector.signs_of_all.Goals as goal

pub loop-simple-init : goal.loop-simple-init
loop-simple-init c = λ ts x e. subst (Shows ts x) (sym c.none-signs.ensures) (none_shown ts x)

pub loop-simple-preserved : goal.loop-simple-preserved
loop-simple-preserved c = λ ts x e.
    subst (Shows ts x) (sym c.and-signs.ensures) (both_shown ts x c.loop-simple.signs.bits c.signs_of.result.bits (c.loop-simple.invariant ts x e)
    (c.signs_of.ensures ts x (subst (λ (s : Simple). simple_matches ts x (simple_view s) ≡ true) (sym c.simple-item.is)
    (one_seen (simple_matches ts x) simple_view c.args.simples.now c.loop-simple.simple-index c.simple-item.result e c.loop-simple-test.true))))
