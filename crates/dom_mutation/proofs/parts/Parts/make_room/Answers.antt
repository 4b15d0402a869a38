use Rattle.dom_mutation.proofs.Cited.{◌≡◌, subst, make_room, index_of, DocState, name_in, owner_in, trees_in, stepped}
use Rattle.dom_mutation.proofs.parts.Parts.make_room.Goals as goal

pub returns : goal.returns
returns c =
    subst (λ (d : DocState). c.move_ends.new.self ≡ stepped (owner_in d c.args.parent) (make_room (name_in d c.args.parent)
    (index_of (trees_in d c.args.child) (name_in d c.args.child)) c.args.count) d) c.remember_siblings.ensures c.move_ends.ensures
