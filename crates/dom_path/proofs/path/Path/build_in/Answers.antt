use Rattle.dom_path.proofs.Cited.{option_map, max_depth, name_at}
use Rattle.dom_path.proofs.InWorlds.{in-world}
use Rattle.dom_path.proofs.Shows.{path-shown, nodes-within, shown-within}
use Rattle.dom_path.proofs.Sightings.{world-hosted}
use Rattle.dom_path.proofs.path.Path.build_in.Goals as goal

pub returns-clause-hosted : goal.returns-clause-hosted
returns-clause-hosted c = λ depth hosted.
    let f = c.args.forest.now in
    let t = name_at f.names c.args.target in
    let r = option_map (name_at f.names) c.args.related in
    path-shown f c.args.slots.now.hosts c.law_nodes_stand_once.ensures.distinct t r c.args.composed c.items_of.new.trees c.in_ok-items.ensures.trees
    depth hosted c.in_ok-items.items.items c.in_ok-items.ensures.each
    (c.in_ok-items.ensures.path depth hosted)

pub returns-clause-items : goal.returns-clause-items
returns-clause-items c = λ w is.
    (in-world c.args.forest.now c.args.slots.now.hosts w is _ _ c.args.composed
    (c.law_nodes_stand_once.ensures.present c.args.target c.requires.target_is_node) _ _
    (returns-clause-hosted c max_depth (world-hosted c.args.forest.now c.args.slots.now.hosts w is))).0

pub returns-clause-views : goal.returns-clause-views
returns-clause-views c = λ w is.
    (in-world c.args.forest.now c.args.slots.now.hosts w is _ _ c.args.composed
    (c.law_nodes_stand_once.ensures.present c.args.target c.requires.target_is_node) _ _
    (returns-clause-hosted c max_depth (world-hosted c.args.forest.now c.args.slots.now.hosts w is))).1

pub returns-clause-nodes : goal.returns-clause-nodes
returns-clause-nodes c =
    let f = c.args.forest.now in
    nodes-within f c.args.slots.now.hosts (name_at f.names c.args.target) (option_map (name_at f.names) c.args.related) c.items_of.new.trees
    c.in_ok-items.items.items c.in_ok-items.ensures.each

pub returns-clause-shown_nodes : goal.returns-clause-shown_nodes
returns-clause-shown_nodes c =
    let f = c.args.forest.now in
    shown-within f c.args.slots.now.hosts (name_at f.names c.args.target) (option_map (name_at f.names) c.args.related) c.items_of.new.trees
    c.in_ok-items.items.items c.in_ok-items.ensures.each
