use Rattle.dom_range_ops.proofs.Cited.{◌∷◌, ◌-◌, [], ℕ, List, length, sym, ap, ◌∙◌, subst, slice_get, unwrap_or, AllByRecursion, append-nil, next_name}
use Rattle.dom_range_ops.proofs.Cited.{has_data, is_shadow, kind_of, part_of, DocState, name_in, owner_in, IsOwnNode, whole_item, cut_item, clone_item, item_in}
use Rattle.dom_range_ops.proofs.Cited.{made_by, clones_after, names_in, IsPieceOf}
use Rattle.dom_range_ops.proofs.TakingPieces.{Taking, own-kept, own-pushed, names-same, names-pushed, top-own, top-open, top-new, taken-as, taken-owner}
use Rattle.dom_range_ops.proofs.TakingPieces.{taken-plain, taken-moves, at-top, one-name, next-owner}
use Rattle.dom_range_ops.proofs.taking.take_piece.Goals.{After-top_of-top}
use Rattle.dom_range_ops.proofs.taking.take_piece.Goals as goal

-- the piece, and the node into which it goes
abbrev taking : After-top_of-top → Taking
taking c = record {
  doc = c.args.doc.now;
  into = c.args.into;
  clones = c.args.clones.now.items;
  piece = c.args.piece;
  top = c.top_of-top.result;
  here = c.requires.into_is_node;
  own = c.requires.clones_are_nodes;
  may = c.requires.may_take;
  part = c.laws.ensures.parts _;
  is_top = c.top_of-top.ensures ∙ ap (λ (ks : List ℕ). unwrap_or (slice_get ks (length ks - 1)) c.args.into) c.as_slice.ensures.value;
}

-- ---- a node as it is

pub insert_unchecked-requires-clause-may_move : goal.insert_unchecked-requires-clause-may_move
insert_unchecked-requires-clause-may_move c =
    let m = taking (goal.at.insert_unchecked-requires-clause-may_move c).After-top_of-top in
    taken-moves m c.in-Whole.node (subst (IsPieceOf c.args.doc.now.names) c.in-Whole.is c.requires.piece_is_node) (taken-as m _ c.in-Whole.is).0

pub insert_unchecked-requires-clause-open : goal.insert_unchecked-requires-clause-open
insert_unchecked-requires-clause-open c = top-open (taking (goal.at.insert_unchecked-requires-clause-open c).After-top_of-top)

pub insert_unchecked-requires-clause-no_shadow : goal.insert_unchecked-requires-clause-no_shadow
insert_unchecked-requires-clause-no_shadow c =
    let m = taking (goal.at.insert_unchecked-requires-clause-no_shadow c).After-top_of-top in
    taken-plain m c.in-Whole.node (taken-as m _ c.in-Whole.is)

pub returns-in_ok-insert_unchecked-in-Whole-clause-world : goal.returns-in_ok-insert_unchecked-in-Whole-clause-world
returns-in_ok-insert_unchecked-in-Whole-clause-world c =
    let d = c.args.doc.now in
    at-top (taking (goal.at.returns-in_ok-insert_unchecked-in-Whole-clause-world c).After-top_of-top) c.insert_unchecked.new.self
    (whole_item (name_in d c.in-Whole.node)) (ap (λ (s : DocState). s.world) c.in_ok-insert_unchecked-in-Whole.ensures.state)
    (ap (item_in d.names) (sym c.in-Whole.is))

pub returns-in_ok-insert_unchecked-in-Whole-clause-clones_are_nodes : goal.returns-in_ok-insert_unchecked-in-Whole-clause-clones_are_nodes
returns-in_ok-insert_unchecked-in-Whole-clause-clones_are_nodes c =
    let d = c.args.doc.now in
    own-kept d c.insert_unchecked.new.self [] c.args.into
    (ap (λ (s : DocState). s.names) c.in_ok-insert_unchecked-in-Whole.ensures.state ∙ sym (append-nil d.names)) c.requires.into_is_node
    c.args.clones.now.items c.requires.clones_are_nodes

-- ---- a part of a Text or Comment

pub take_units-requires-clause-top : goal.take_units-requires-clause-top
take_units-requires-clause-top c =
    top-new (taking (goal.at.take_units-requires-clause-top c).After-top_of-top) 0
    (ap (λ piece. made_by (item_in c.args.doc.now.names piece ∷ [])) c.in-Cut.is)

pub take_units-requires-clause-node_owner : goal.take_units-requires-clause-node_owner
take_units-requires-clause-node_owner c =
    let m = taking (goal.at.take_units-requires-clause-node_owner c).After-top_of-top in
    taken-owner m c.in-Cut.node (taken-as m _ c.in-Cut.is).0

pub take_units-requires-clause-units : goal.take_units-requires-clause-units
take_units-requires-clause-units c =
    let m = taking (goal.at.take_units-requires-clause-units c).After-top_of-top in
    let d = c.args.doc.now in
    ap (λ o. has_data (kind_of (part_of d.world o).trees (name_in d c.in-Cut.node))) (top-own m).1 ∙ (taken-as m _ c.in-Cut.is).1

pub returns-in_ok-take_units-in-Cut-clause-names : goal.returns-in_ok-take_units-in-Cut-clause-names
returns-in_ok-take_units-in-Cut-clause-names c =
    one-name (taking (goal.at.returns-in_ok-take_units-in-Cut-clause-names c).After-top_of-top) c.take_units.new.doc
    c.in_ok-take_units-in-Cut.ensures.names (ap (λ piece. made_by (item_in c.args.doc.now.names piece ∷ [])) c.in-Cut.is)

pub returns-in_ok-take_units-in-Cut-clause-world : goal.returns-in_ok-take_units-in-Cut-clause-world
returns-in_ok-take_units-in-Cut-clause-world c =
    let d = c.args.doc.now in
    at-top (taking (goal.at.returns-in_ok-take_units-in-Cut-clause-world c).After-top_of-top) c.take_units.new.doc
    (cut_item (name_in d c.in-Cut.node) c.in-Cut.from c.in-Cut.to) c.in_ok-take_units-in-Cut.ensures.world (ap (item_in d.names) (sym c.in-Cut.is))

pub returns-in_ok-take_units-in-Cut-clause-clones : goal.returns-in_ok-take_units-in-Cut-clause-clones
returns-in_ok-take_units-in-Cut-clause-clones c =
    let d = c.args.doc.now in
    names-same d c.take_units.new.doc (next_name (part_of d.world (owner_in d c.top_of-top.result)) ∷ []) c.args.into
    c.in_ok-take_units-in-Cut.ensures.names c.args.clones.now.items c.requires.clones_are_nodes
    ∙ ap (λ piece. clones_after (next_name (part_of d.world (owner_in d c.args.into))) (item_in d.names piece)
    (names_in d c.args.clones.now.items)) (sym c.in-Cut.is)

pub returns-in_ok-take_units-in-Cut-clause-clones_are_nodes : goal.returns-in_ok-take_units-in-Cut-clause-clones_are_nodes
returns-in_ok-take_units-in-Cut-clause-clones_are_nodes c =
    let d = c.args.doc.now in
    own-kept d c.take_units.new.doc (next_name (part_of d.world (owner_in d c.top_of-top.result)) ∷ []) c.args.into
    c.in_ok-take_units-in-Cut.ensures.names c.requires.into_is_node c.args.clones.now.items c.requires.clones_are_nodes

-- ---- a clone of another node

pub take_clone-requires-clause-top : goal.take_clone-requires-clause-top
take_clone-requires-clause-top c =
    top-new (taking (goal.at.take_clone-requires-clause-top c).After-top_of-top) 0
    (ap (λ piece. made_by (item_in c.args.doc.now.names piece ∷ [])) c.in-Clone.is)

pub take_clone-requires-clause-node_owner : goal.take_clone-requires-clause-node_owner
take_clone-requires-clause-node_owner c =
    let m = taking (goal.at.take_clone-requires-clause-node_owner c).After-top_of-top in
    taken-owner m c.in-Clone.node (taken-as m _ c.in-Clone.is).0

pub take_clone-requires-clause-no_shadow : goal.take_clone-requires-clause-no_shadow
take_clone-requires-clause-no_shadow c =
    let m = taking (goal.at.take_clone-requires-clause-no_shadow c).After-top_of-top in
    let d = c.args.doc.now in
    ap (λ o. is_shadow (kind_of (part_of d.world o).trees (name_in d c.in-Clone.node))) (top-own m).1 ∙ (taken-as m _ c.in-Clone.is).2

pub returns-in_ok-push-in-Clone-clause-names : goal.returns-in_ok-push-in-Clone-clause-names
returns-in_ok-push-in-Clone-clause-names c =
    one-name (taking (goal.at.returns-in_ok-push-in-Clone-clause-names c).After-top_of-top) c.take_clone.new.doc
    c.in_ok-clone-in-Clone.ensures.names (ap (λ piece. made_by (item_in c.args.doc.now.names piece ∷ [])) c.in-Clone.is)

pub returns-in_ok-push-in-Clone-clause-world : goal.returns-in_ok-push-in-Clone-clause-world
returns-in_ok-push-in-Clone-clause-world c =
    let d = c.args.doc.now in
    at-top (taking (goal.at.returns-in_ok-push-in-Clone-clause-world c).After-top_of-top) c.take_clone.new.doc
    (clone_item (name_in d c.in-Clone.node)) c.in_ok-clone-in-Clone.ensures.world (ap (item_in d.names) (sym c.in-Clone.is))

pub returns-in_ok-push-in-Clone-clause-clones : goal.returns-in_ok-push-in-Clone-clause-clones
returns-in_ok-push-in-Clone-clause-clones c =
    let d = c.args.doc.now in
    ap (names_in c.take_clone.new.doc) c.in_ok-push-in-Clone.ensures.items
    ∙ names-pushed d c.take_clone.new.doc (next_name (part_of d.world (owner_in d c.top_of-top.result))) c.args.into c.in_ok-clone-in-Clone.clone
    c.in_ok-clone-in-Clone.ensures.names c.in_ok-clone-in-Clone.ensures.key c.args.clones.now.items c.requires.clones_are_nodes
    ∙ ap (λ o. next_name (part_of d.world o) ∷ names_in d c.args.clones.now.items)
    (top-own (taking (goal.at.returns-in_ok-push-in-Clone-clause-clones c).After-top_of-top)).1
    ∙ ap (λ piece. clones_after (next_name (part_of d.world (owner_in d c.args.into))) (item_in d.names piece)
    (names_in d c.args.clones.now.items)) (sym c.in-Clone.is)

pub returns-in_ok-push-in-Clone-clause-clones_are_nodes : goal.returns-in_ok-push-in-Clone-clause-clones_are_nodes
returns-in_ok-push-in-Clone-clause-clones_are_nodes c =
    let d = c.args.doc.now in
    subst (AllByRecursion (IsOwnNode c.take_clone.new.doc c.args.into)) (sym c.in_ok-push-in-Clone.ensures.items)
    (own-pushed d c.take_clone.new.doc (next_name (part_of d.world (owner_in d c.top_of-top.result))) c.args.into c.in_ok-clone-in-Clone.clone
    c.in_ok-clone-in-Clone.ensures.names c.in_ok-clone-in-Clone.ensures.key
    (next-owner (taking (goal.at.returns-in_ok-push-in-Clone-clause-clones_are_nodes c).After-top_of-top)) c.requires.into_is_node
    c.args.clones.now.items c.requires.clones_are_nodes)
