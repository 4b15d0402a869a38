use Rattle.dom_base.proofs.Std.{◌≡◌, None, Some, sym, ap, ◌∙◌, Option, find, option_to_list, option_map, option_and_then}
use Rattle.dom_model.proofs.Model.{NodeName, DomString, name_eq, is_in, has_slot_name, slot_name, Node, node_in, nodes, subtree}
use Rattle.dom_tree.specs.Definitions.{name_at}
use Rattle.dom_slots.specs.Definitions.{root_named}
use Rattle.dom_slots.proofs.Hosted.{root-named, root-node, found-test}
use Rattle.dom_slots.proofs.slots.Slots.is_first.Goals as goal

pub slot_named-requires : goal.slot_named-requires
slot_named-requires c = root-node c.args.forest.now.names c.args.self.now.hosts c.requires.hosts c.args.host c.in-Some.root
    (sym c.root_of.ensures ∙ c.in-Some.is)

pub returns-in-Some : goal.returns-in-Some
returns-in-Some c =
    let f = c.args.forest.now in
    let hosts = c.args.self.now.hosts in
    let y = name_at f.names c.args.slot in
    let apart = c.law_nodes_stand_once.ensures.distinct in
    let root = name_at f.names c.in-Some.root in
    let first : NodeName → DomString → Option NodeName = λ r a. option_map (λ (n : Node). n.name) (find (has_slot_name a) (nodes (subtree f.trees r))) in
    let at : Some root ≡ root_named f.names hosts (name_at f.names c.args.host) =
    ap (option_map (name_at f.names)) (sym c.in-Some.is ∙ c.root_of.ensures) ∙ root-named f.names apart hosts c.requires.hosts c.args.host
    c.requires.host_is_node in
    c.eq.ensures ∙ (found-test f.names apart c.slot_named.result c.args.slot c.slot_named.ensures.node c.requires.slot_is_node
    ∙ (ap (λ o. is_in name_eq y (option_to_list o)) (c.slot_named.ensures.value ∙ ap (first root) c.slot_name.ensures)
    ∙ ap (λ o. is_in name_eq y (option_to_list (option_and_then (λ r. first r (slot_name (node_in f.trees y))) o))) at))

pub returns-in-None : goal.returns-in-None
returns-in-None c =
    let f = c.args.forest.now in
    let hosts = c.args.self.now.hosts in
    let y = name_at f.names c.args.slot in
    let first : NodeName → DomString → Option NodeName = λ r a. option_map (λ (n : Node). n.name) (find (has_slot_name a) (nodes (subtree f.trees r))) in
    let at : None ≡ root_named f.names hosts (name_at f.names c.args.host) =
    ap (option_map (name_at f.names)) (sym c.in-None.is ∙ c.root_of.ensures) ∙ root-named f.names c.law_nodes_stand_once.ensures.distinct hosts
    c.requires.hosts c.args.host c.requires.host_is_node in
    ap (λ o. is_in name_eq y (option_to_list (option_and_then (λ r. first r (slot_name (node_in f.trees y))) o))) at
