use Rattle.dom_path.proofs.Cited.{length, refl, sym, ◌∙◌, slice_get_read}
use Rattle.dom_path.proofs.Nesting.{encloses-step}
use Rattle.dom_path.proofs.trees.encloses.Goals as goal

pub loop-root-preserved : goal.loop-root-preserved
loop-root-preserved c =
    let trees = c.args.trees.now in
    let t = c.index-trees-place.result in
    let at = slice_get_read trees (length trees) c.loop-root.place t refl c.loop-root.invariant.0 c.index-trees-place.is in
    let step = encloses-step trees c.requires.nested c.args.root c.loop-root.place at (sym c.if-eq.ensures) c.if-is_none.ensures in
    (step.0, step.1 ∙ c.loop-root.invariant.1)
