use Rattle.dom_path.proofs.Cited.{◌≡◌, length, Some, refl, sym, ap, subst, ◌∙◌, arith, slice_get, slice_index_or, slice_get_read, Tree, AreNested, hiding_host}
use Rattle.dom_path.proofs.Cited.{seen_from}
use Rattle.dom_path.proofs.Nesting.{outer-below, outer-is, seen-host}
use Rattle.dom_path.proofs.trees.Trees.seen_from.Goals as goal

pub loop-host-smaller : goal.loop-host-smaller
loop-host-smaller c =
    let trees = c.as_slice-trees.result.now in
    let t = c.index-trees-place.result in
    let place = c.loop-host.place in
    let same : trees ≡ c.args.self.now = c.as_slice-trees.ensures ∙ c.self.view_is in
    let nested : AreNested trees = subst AreNested (sym c.as_slice-trees.ensures) c.self.invariant in
    let hidden : hiding_host trees c.args.viewer place ≡ Some c.in-Some.host =
    subst (λ ts. hiding_host ts c.args.viewer place ≡ Some c.in-Some.host) (sym same) (sym c.hiding_host.ensures ∙ c.in-Some.is) in
    let at = slice_get_read trees (length trees) place t refl c.loop-host.invariant.0 c.index-trees-place.is in
    let below = outer-below trees nested c.args.viewer place c.in-Some.host hidden in
    let is = outer-is trees place t at in
    let read = ap (λ (x : Tree). x.outer) c.index-trees-place.is in
    omega (arith, below, is, read)

pub loop-host-preserved : goal.loop-host-preserved
loop-host-preserved c =
    let trees = c.as_slice-trees.result.now in
    let self = c.args.self.now in
    let t = c.index-trees-place.result in
    let place = c.loop-host.place in
    let viewer = c.args.viewer in
    let same : trees ≡ self = c.as_slice-trees.ensures ∙ c.self.view_is in
    let nested : AreNested self = subst AreNested c.self.view_is c.self.invariant in
    let hidden : hiding_host self viewer place ≡ Some c.in-Some.host = sym c.hiding_host.ensures ∙ c.in-Some.is in
    let at : slice_get self place ≡ Some t =
    subst (λ ts. slice_get ts place ≡ Some t) same
    (slice_get_read trees (length trees) place t refl c.loop-host.invariant.0 c.index-trees-place.is) in
    let below = outer-below self nested viewer place c.in-Some.host hidden in
    let is = outer-is self place t at in
    let read : t.outer ≡ (slice_index_or trees place t).outer = ap (λ (x : Tree). x.outer) c.index-trees-place.is in
    let within = c.loop-host.invariant.0 in
    let step = seen-host self nested viewer c.loop-host.seen place c.in-Some.host hidden in (
      omega (arith, below, is, read, within),
      subst (λ k. seen_from self viewer c.in-Some.host k ≡ seen_from self viewer c.args.node c.args.place) (is ∙ read) (sym step ∙ c.loop-host.invariant.1),
    )
