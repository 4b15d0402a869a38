use Rattle.dom_mutation.proofs.Cited.{◌<◌, length, refl, sym, ap, ◌∙◌, nat_lt, node_in, part_of, component_made, component_made-no_page, name_at, cursors_of}
use Rattle.dom_mutation.proofs.Cited.{tables_with_trees, all_tables, owner_in}
use Rattle.dom_observers.specs.Definitions.{tables_of as observers_of}
use Rattle.dom_mutation.proofs.HeldNodes.{given_up}
use Rattle.dom_mutation.proofs.Attachable.{accepted, next_is_for, new_owner, held_then, names_then, world_then}
use Rattle.dom_mutation.proofs.OwnersOfNodes.{nodes_there}
use Rattle.dom_mutation.proofs.Shown.{known}
use Rattle.dom_mutation.proofs.parts.Parts.attach.Goals as goal

pub attach_root-made-requires-clause-new_owner : goal.attach_root-made-requires-clause-new_owner
attach_root-made-requires-clause-new_owner c =
    new_owner c.self.inside.trees.forest (all_tables c.self.inside) c.self.invariant c.args.host
    (accepted c.self.inside.trees.forest (all_tables c.self.inside) c.self.invariant c.law_nodes_stand_once.ensures.distinct c.args.self.now c.self.view_is
    c.args.host c.requires c.in-Ok.ensures.refusal).1.1
    c.in-Ok.owner (c.in-Ok.ensures.component ∙ next_is_for c.self.inside.trees.forest (all_tables c.self.inside) c.self.invariant
    c.law_nodes_stand_once.ensures.distinct c.args.self.now c.self.view_is c.args.host c.requires)

pub attach_root-made-requires-clause-new_host : goal.attach_root-made-requires-clause-new_host
attach_root-made-requires-clause-new_host c =
    (accepted c.self.inside.trees.forest (all_tables c.self.inside) c.self.invariant c.law_nodes_stand_once.ensures.distinct c.args.self.now c.self.view_is
    c.args.host c.requires c.in-Ok.ensures.refusal).0

pub invariant_of-self : goal.invariant_of-self
invariant_of-self c =
    let f = c.self.inside.trees.forest in
    let d = (node_in f.trees (name_at f.names c.args.host)).document in
    held_then f (all_tables c.self.inside) c.self.invariant c.args.host
    (accepted c.self.inside.trees.forest (all_tables c.self.inside) c.self.invariant c.law_nodes_stand_once.ensures.distinct c.args.self.now c.self.view_is
    c.args.host c.requires c.in-Ok.ensures.refusal).1.1
    c.in-Ok.owner (c.in-Ok.ensures.component ∙ next_is_for c.self.inside.trees.forest (all_tables c.self.inside) c.self.invariant
    c.law_nodes_stand_once.ensures.distinct c.args.self.now c.self.view_is c.args.host c.requires) c.attach_root-made.new.forest
    c.attach_root-made.new.slots d c.in-Ok-made.ensures.names c.in-Ok-made.ensures.trees
    c.in-Ok-made.ensures.hosts c.in-Ok-made.ensures.slots
    (known f c.self.invariant c.self.view_is (λ e. c.args.host < length e.names) c.requires)
    (accepted c.self.inside.trees.forest (all_tables c.self.inside) c.self.invariant c.law_nodes_stand_once.ensures.distinct c.args.self.now c.self.view_is
    c.args.host c.requires c.in-Ok.ensures.refusal).1.0

pub returns-in-Ok-made-clause-names : goal.returns-in-Ok-made-clause-names
returns-in-Ok-made-clause-names c =
    let f = c.self.inside.trees.forest in
    let d = (node_in f.trees (name_at f.names c.args.host)).document in
    names_then f (all_tables c.self.inside) c.self.invariant c.args.host
    (accepted c.self.inside.trees.forest (all_tables c.self.inside) c.self.invariant c.law_nodes_stand_once.ensures.distinct c.args.self.now c.self.view_is
    c.args.host c.requires c.in-Ok.ensures.refusal).1.1
    c.in-Ok.owner (c.in-Ok.ensures.component ∙ next_is_for c.self.inside.trees.forest (all_tables c.self.inside) c.self.invariant
    c.law_nodes_stand_once.ensures.distinct c.args.self.now c.self.view_is c.args.host c.requires) c.attach_root-made.new.forest
    c.attach_root-made.new.slots d c.in-Ok-made.ensures.names c.in-Ok-made.ensures.trees
    c.in-Ok-made.ensures.hosts c.in-Ok-made.ensures.slots
    c.args.self.now c.self.view_is c.requires c.in-Ok.ensures.component

pub returns-in-Ok-made-clause-world : goal.returns-in-Ok-made-clause-world
returns-in-Ok-made-clause-world c =
    let f = c.self.inside.trees.forest in
    let d = (node_in f.trees (name_at f.names c.args.host)).document in
    world_then f (all_tables c.self.inside) c.self.invariant c.args.host
    (accepted c.self.inside.trees.forest (all_tables c.self.inside) c.self.invariant c.law_nodes_stand_once.ensures.distinct c.args.self.now c.self.view_is
    c.args.host c.requires c.in-Ok.ensures.refusal).1.1
    c.in-Ok.owner (c.in-Ok.ensures.component ∙ next_is_for c.self.inside.trees.forest (all_tables c.self.inside) c.self.invariant
    c.law_nodes_stand_once.ensures.distinct c.args.self.now c.self.view_is c.args.host c.requires) c.attach_root-made.new.forest
    c.attach_root-made.new.slots d c.in-Ok-made.ensures.names c.in-Ok-made.ensures.trees
    c.in-Ok-made.ensures.hosts c.in-Ok-made.ensures.slots
    c.args.self.now c.self.view_is c.requires refl

pub returns-in-Ok-made-clause-fresh : goal.returns-in-Ok-made-clause-fresh
returns-in-Ok-made-clause-fresh c =
    let f = c.self.inside.trees.forest in
    let d = c.args.self.now in
    let o = owner_in d c.args.host in
    let n = length (part_of d.world o).attached in
    let next = next_is_for f (all_tables c.self.inside) c.self.invariant c.law_nodes_stand_once.ensures.distinct d c.self.view_is c.args.host c.requires in
    let none = new_owner f (all_tables c.self.inside) c.self.invariant c.args.host
    (accepted f (all_tables c.self.inside) c.self.invariant c.law_nodes_stand_once.ensures.distinct d c.self.view_is
    c.args.host c.requires c.in-Ok.ensures.refusal).1.1 (component_made o n) next in
    sym (nodes_there f c.self.invariant c.self.view_is (component_made o n) (component_made-no_page o n)) ∙ ap (nat_lt 0) none

pub invariant_of-self-in-Err-made : goal.invariant_of-self-in-Err-made
invariant_of-self-in-Err-made c =
    given_up c.give_up.new.trees.forest (tables_with_trees (cursors_of c.give_up.new.cursors) (observers_of c.give_up.new.observers) c.give_up.new.trees
    c.give_up.new.ranges) c.give_up.ensures.empty c.give_up.ensures.first
