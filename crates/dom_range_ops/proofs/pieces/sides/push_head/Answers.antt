use Rattle.dom_range_ops.proofs.Cited.{[], ◌∷◌, Some, refl, sym, ap, subst, ◌∙◌, map, name_eq, items_before, children_of, name_at, Once-forest, Has-forest}
use Rattle.dom_range_ops.proofs.Cited.{Adds, whole_item, clone_item, wholes_if, up_to, Clone}
use Rattle.dom_range_ops.proofs.PieceRuns.{adds-on, adds-one, from-kids}
use Rattle.dom_range_ops.proofs.pieces.sides.push_head.Goals as goal

pub returns-in_ok-push_siblings : goal.returns-in_ok-push_siblings
returns-in_ok-push_siblings c =
    let f = c.args.forest.now in
    let e = c.law_nodes_stand_once.ensures in
    let p = name_at f.names c.args.node in
    let x = name_at f.names c.args.child in
    let kids = children_of f.trees p in
    let run = ap (λ xs. map whole_item (up_to (Some x) xs))
    (from-kids f.trees (Once-forest f e.once e.only) p (Has-forest f e.once c.args.node c.requires.node) [] kids refl
    c.first.ensures.value)
    ∙ ap (λ b. wholes_if b (items_before name_eq x kids)) (sym c.if-before.true) in
    subst (λ ys. Adds f.names c.args.pieces.now.items c.push_siblings.new.pieces.items (clone_item p ∷ ys)) run
    (adds-on f.names (clone_item p ∷ []) _
    (adds-one f.names c.args.pieces.now.items c.push.new.self.items (Clone c.args.node) c.in_ok-push.ensures.items c.requires.node)
    c.in_ok-push_siblings.ensures)
