use Rattle.dom_range_ops.proofs.Cited.{[], ◌∷◌, ◌++◌, map, take, drop, sym, subst, if◌then◌else◌, cond-false, children_of, kind_of, has_data, length_of}
use Rattle.dom_range_ops.proofs.Cited.{name_at, Clone, End, Adds, whole_item, cut_item, clone_item, end_item}
use Rattle.dom_range_ops.proofs.PieceRuns.{adds-on, adds-one}
use Rattle.dom_range_ops.proofs.pieces.sides.push_end.Goals as goal

pub returns : goal.returns
returns c =
    let f = c.args.forest.now in
    let x = name_at f.names c.args.side.point.0 in
    let offset = c.args.side.point.1 in
    let behind = c.args.side.behind in
    let kids = children_of f.trees x in
    let taken = map whole_item (if behind then drop offset kids else take offset kids) in
    let part = cut_item x (if behind then offset else 0) (if behind then length_of f.trees x else offset) in
    let old = c.args.pieces.now.items in
    subst (Adds f.names old c.push-3.new.self.items)
    (sym (cond-false (has_data (kind_of f.trees x)) (part ∷ []) (clone_item x ∷ (taken ++ end_item ∷ [])) (sym c.if-has_data.ensures)))
    (adds-on f.names (clone_item x ∷ []) (taken ++ end_item ∷ [])
    (adds-one f.names old c.push-2.new.self.items (Clone c.args.side.point.0) c.in_ok-push-2.ensures.items c.requires)
    (adds-on f.names taken (end_item ∷ []) c.in_ok-push_children.ensures
    (adds-one f.names c.push_children.new.pieces.items c.push-3.new.self.items End c.in_ok-push-3.ensures.items tt)))
