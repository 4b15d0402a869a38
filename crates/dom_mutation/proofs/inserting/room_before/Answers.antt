use Rattle.dom_mutation.proofs.Cited.{[], ◌∷◌, option_map, sym, ap, ◌∙◌, index_of, Part, make_room, part_of, making_room, name_in, owner_in, trees_in, stepped}
use Rattle.dom_mutation.proofs.Cited.{planned}
use Rattle.dom_mutation.proofs.inserting.room_before.Goals as goal

pub returns-in-Some-clause-state : goal.returns-in-Some-clause-state
returns-in-Some-clause-state c =
    let d = c.args.parts.now in
    let parent = name_in d c.args.parent in
    c.make_room.ensures
    ∙ ap (λ o. stepped (owner_in d c.args.parent) (make_room parent (index_of (part_of d.world o).trees (name_in d c.in-Some.child)) c.args.count)
    d) (c.requires.before_is_child c.in-Some.child c.in-Some.is).owner
    ∙ ap (λ b. planned (owner_in d c.args.parent) (making_room parent (option_map (name_in d) b) c.args.count) d) (sym c.in-Some.is)

pub returns-in-Some-clause-trees : goal.returns-in-Some-clause-trees
returns-in-Some-clause-trees c =
    let d = c.args.parts.now in
    ap (λ e. trees_in e c.args.parent) c.make_room.ensures
    ∙ ap (λ (p : Part). p.trees) ((c.laws.ensures.alone c.args.parent c.requires.parent_is_node).steps
    (make_room (name_in d c.args.parent) (index_of (trees_in d c.in-Some.child) (name_in d c.in-Some.child)) c.args.count ∷ []) (tt, tt))

pub make_room-requires-clause-is_child : goal.make_room-requires-clause-is_child
make_room-requires-clause-is_child c = c.requires.before_is_child c.in-Some.child c.in-Some.is
