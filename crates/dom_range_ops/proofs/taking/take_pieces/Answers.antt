use Rattle.dom_range_ops.proofs.Cited.{◌∷◌, ◌+◌, drop, subst, NodeName, owner_in, IsAlone}
use Rattle.dom_range_ops.proofs.TakingLoops.{Progress, left-now, same-into, into-kept, next-may, next-node, progress-next}
use Rattle.dom_range_ops.proofs.taking.take_pieces.Goals.{After-piece-item}
use Rattle.dom_range_ops.proofs.taking.take_pieces.Goals as goal

-- how far the taking has come where a piece is next
progress : (c : After-piece-item) → Progress c.args.doc.now c.args.into c.args.pieces.now
    (c.piece-item.result ∷ drop (c.loop-piece.piece-index + 1) c.args.pieces.now) c.loop-piece.doc c.loop-piece.clones.items
progress c =
    subst (λ left. Progress c.args.doc.now c.args.into c.args.pieces.now left c.loop-piece.doc c.loop-piece.clones.items)
    (left-now c.args.pieces.now c.loop-piece.piece-index c.piece-item.result c.loop-piece-test.true c.piece-item.is) c.loop-piece.invariant

pub take_piece-requires-clause-into_is_node : goal.take_piece-requires-clause-into_is_node
take_piece-requires-clause-into_is_node c =
    into-kept _ _ c.requires.into_is_node _ _ _ _ _ (progress (goal.at.take_piece-requires-clause-into_is_node c).After-piece-item)

pub take_piece-requires-clause-clones_are_nodes : goal.take_piece-requires-clause-clones_are_nodes
take_piece-requires-clause-clones_are_nodes c = c.loop-piece.invariant.own

pub take_piece-requires-clause-piece_is_node : goal.take_piece-requires-clause-piece_is_node
take_piece-requires-clause-piece_is_node c =
    next-node _ _ c.requires.into_is_node _ _ _ _ _ (progress (goal.at.take_piece-requires-clause-piece_is_node c).After-piece-item)

pub take_piece-requires-clause-may_take : goal.take_piece-requires-clause-may_take
take_piece-requires-clause-may_take c =
    next-may _ _ c.requires.into_is_node _ _ _ _ _ (progress (goal.at.take_piece-requires-clause-may_take c).After-piece-item)

pub loop-piece-preserved : goal.loop-piece-preserved
loop-piece-preserved c =
    let g = (progress (goal.at.loop-piece-preserved c).After-piece-item) in
    let into = c.requires.into_is_node in
    progress-next _ _ into _ _ _ _ _ g
    (subst (λ (y : NodeName). IsAlone c.loop-piece.doc.world y.owner) (same-into _ _ into _ _ _ _ _ g)
    (c.laws-in-loop-piece.ensures.alone c.args.into (into-kept _ _ into _ _ _ _ _ g)))
    (c.laws-in-loop-piece.ensures.parts (owner_in c.args.doc.now c.args.into)) c.take_piece.new.doc c.take_piece.new.clones.items
    c.in_ok-take_piece.ensures.names c.in_ok-take_piece.ensures.world c.in_ok-take_piece.ensures.clones
    c.in_ok-take_piece.ensures.clones_are_nodes
