use Rattle.dom_range_ops.proofs.Cited.{◌≡◌, ◌-◌, ℕ, List, length, slice_get, sym, ap, ◌∙◌, option_copied, Option}
use Rattle.dom_range_ops.proofs.PieceLaws.{place-at_start, place-at_low, open-at_low}
use Rattle.dom_range_ops.proofs.PieceSteps.{none-named}
use Rattle.dom_range_ops.proofs.ends.new_place.Goals as goal

-- the last key of the path by that of the slice
by_path : {path keys : List ℕ} {last other : Option ℕ} → path ≡ keys → last ≡ slice_get path (length path - 1) → last ≡ other →
    slice_get keys (length keys - 1) ≡ other
by_path same is e = ap (λ ks. slice_get ks (length ks - 1)) (sym same) ∙ sym is ∙ e

pub behind_node-requires-clause-below_no_data : goal.behind_node-requires-clause-below_no_data
behind_node-requires-clause-below_no_data c =
    let e = c.law_nodes_stand_once.ensures in
    open-at_low c.args.forest.now e.once e.only c.args.points.now c.requires _ _ c.in_ok-start_path.ensures c.in-Some.low.now
    (by_path c.as_slice-path.ensures c.last.ensures.value (ap option_copied c.in-Some.is))

pub returns-in-Some-clause-value : goal.returns-in-Some-clause-value
returns-in-Some-clause-value c =
    let e = c.law_nodes_stand_once.ensures in
    c.behind_node.ensures.value
    ∙ sym (place-at_low c.args.forest.now e.once e.only c.args.points.now c.requires _ _ c.in_ok-start_path.ensures c.in-Some.low.now
    (by_path c.as_slice-path.ensures c.last.ensures.value (ap option_copied c.in-Some.is)))

pub returns-clause-value : goal.returns-clause-value
returns-clause-value c =
    let e = c.law_nodes_stand_once.ensures in
    sym (place-at_start c.args.forest.now e.once e.only c.args.points.now c.requires _ _ c.in_ok-start_path.ensures
    (none-named c.in_ok-start_path.start_path.items
    (by_path c.as_slice-path.ensures c.last.ensures.value (ap option_copied c.in-None.is))))
