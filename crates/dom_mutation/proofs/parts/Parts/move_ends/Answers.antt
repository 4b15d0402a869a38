use Rattle.dom_mutation.proofs.Cited.{◌<◌, ℕ, length, refl, ap, ◌∙◌, nat_eq, name_eq, after_insert, make_room, index_of, insert-named, name_at, name_in}
use Rattle.dom_mutation.proofs.Cited.{owner_in, stepped, all_tables}
use Rattle.dom_mutation.proofs.RangeRules.{insert_rule}
use Rattle.dom_mutation.proofs.RangedStates.{MovesEnds, ends_moved, room_asks}
use Rattle.dom_mutation.proofs.Shown.{known, shown}
use Rattle.dom_mutation.proofs.parts.Parts.move_ends.Goals as goal

pub on_insert_before-requires-clause-fits : goal.on_insert_before-requires-clause-fits
on_insert_before-requires-clause-fits c =
    let f = c.self.inside.trees.forest in
    room_asks f c.self.invariant c.self.view_is c.law_nodes_stand_once.ensures.once c.law_nodes_stand_once.ensures.only c.args.parent c.args.child
    c.args.count c.requires.parent_is_node c.requires.is_child c.requires.bounds c.requires.few (index_of f.trees (name_at f.names c.args.child))

-- what the step leaves
left : (c : goal.After-on_insert_before) → MovesEnds c.self.inside.trees.forest (all_tables c.self.inside) c.args.self.now c.on_insert_before.new.self
    c.args.parent (λ ns. make_room (name_at ns c.args.parent)
    (index_of c.self.inside.trees.forest.trees (name_at c.self.inside.trees.forest.names c.args.child)) c.args.count)
left c =
    let f = c.self.inside.trees.forest in
    let p = name_at f.names c.args.parent in
    let index = index_of f.trees (name_at f.names c.args.child) in
    ends_moved f c.self.invariant c.self.view_is c.law_nodes_stand_once.ensures.distinct c.args.parent c.requires.parent_is_node
    (after_insert nat_eq c.args.parent index c.args.count) (after_insert name_eq p index c.args.count)
    (λ ns. make_room (name_at ns c.args.parent) index c.args.count) tt refl
    (insert-named f.names c.law_nodes_stand_once.ensures.distinct c.args.parent index c.args.count
    (known f c.self.invariant c.self.view_is (λ e. c.args.parent < length e.names) c.requires.parent_is_node))
    (insert_rule p.owner p refl index c.args.count) c.on_insert_before.ensures
    (room_asks f c.self.invariant c.self.view_is c.law_nodes_stand_once.ensures.once c.law_nodes_stand_once.ensures.only c.args.parent c.args.child
    c.args.count c.requires.parent_is_node c.requires.is_child c.requires.bounds c.requires.few index)

pub invariant_of-self : goal.invariant_of-self
invariant_of-self c = (left c).held

pub returns : goal.returns
returns c =
    let f = c.self.inside.trees.forest in
    let d = c.args.self.now in
    let index = index_of f.trees (name_at f.names c.args.child) in
    (left c).state ∙ ap (λ (i : ℕ). stepped (owner_in d c.args.parent) (make_room (name_in d c.args.parent) i c.args.count) d)
    (shown f c.self.invariant c.self.view_is index_of (λ ns. index) c.args.child (λ j. index) (λ r. r.index))
