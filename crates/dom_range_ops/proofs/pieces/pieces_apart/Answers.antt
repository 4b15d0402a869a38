use Rattle.dom_range_ops.proofs.Cited.{List, [], sym, subst, refl, AreItems, ArePaths, Piece}
use Rattle.dom_range_ops.proofs.pieces.pieces_apart.Goals as goal

pub push_pieces-requires-clause-paths : goal.push_pieces-requires-clause-paths
push_pieces-requires-clause-paths c =
    let paths = ArePaths c.args.forest.now c.args.points.now in
    subst (λ ks. paths ks c.as_slice-2.result.now) (sym c.as_slice.ensures)
    (subst (paths c.in_ok-start_path.start_path.items) (sym c.as_slice-2.ensures) c.in_ok-start_path.ensures)

pub returns-clause-paths : goal.returns-clause-paths
returns-clause-paths c = (c.in_ok-start_path.start_path.items, c.in_ok-start_path.end_path.items, c.in_ok-start_path.ensures)

pub returns-clause-items : goal.returns-clause-items
returns-clause-items c =
    let none : AreItems c.args.forest.now.names c.in_ok-pieces.pieces.items [] =
    subst (λ (ps : List Piece). AreItems c.args.forest.now.names ps []) (sym c.in_ok-pieces.ensures.items)
    (record { value = refl; nodes = tt }) in
    c.in_ok-push_pieces.ensures [] none
