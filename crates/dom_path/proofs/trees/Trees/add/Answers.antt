-- The node's own tree is put behind those around its host.
use Rattle.dom_path.proofs.Cited.{[], ◌∙◌, arith, refl, sym, ap, option_map, name_at, host-named, host-node, Tree, IsAround}
use Rattle.dom_path.proofs.Goings.{outside-own, outside-nested, outside-more, outside-last}
use Rattle.dom_path.proofs.trees.Trees.add.Goals as goal

pub add_outer-requires-clause-host_is_node : goal.add_outer-requires-clause-host_is_node
add_outer-requires-clause-host_is_node c =
    λ k e. host-node c.args.forest.now.names c.args.slots.now.hosts c.requires.hosts c.root-root.result k (sym c.host_of-host.ensures ∙ e)

pub push-requires : goal.push-requires
push-requires c =
    let f = c.args.forest.now in
    let hosts = c.args.slots.now.hosts in
    let root = c.root-root.result in
    let own : Tree = record { root = root; host = c.host_of-host.result; outer = 0 } in
    let around : IsAround f hosts (name_at f.names c.args.node) own = record {
      nodes = record { root = c.root-root.ensures.node; host = λ k e. host-node f.names hosts c.requires.hosts root k (sym c.host_of-host.ensures ∙ e) };
      root = c.root-root.ensures.value;
      host = ap (option_map (name_at f.names)) c.host_of-host.ensures ∙ host-named f.names c.law_nodes_stand_once.ensures.distinct hosts
          c.requires.hosts root c.root-root.ensures.node;
    } in
    record {
      nested = outside-nested f hosts [] own (outside-own f hosts {old = c.args.self.now} {trees = c.add_outer.new.self} own around c.in_ok-outer.ensures.grown
          c.in_ok-outer.ensures.trees c.in_ok-outer.ensures.within c.in_ok-outer.ensures.there) refl;
    }

pub returns : goal.returns
returns c =
    let f = c.args.forest.now in
    let hosts = c.args.slots.now.hosts in
    let root = c.root-root.result in
    let own : Tree = record { root = root; host = c.host_of-host.result; outer = 0 } in
    let around : IsAround f hosts (name_at f.names c.args.node) own = record {
      nodes = record { root = c.root-root.ensures.node; host = λ k e. host-node f.names hosts c.requires.hosts root k (sym c.host_of-host.ensures ∙ e) };
      root = c.root-root.ensures.value;
      host = ap (option_map (name_at f.names)) c.host_of-host.ensures ∙ host-named f.names c.law_nodes_stand_once.ensures.distinct hosts
          c.requires.hosts root c.root-root.ensures.node;
    } in
    let end = outside-more f hosts [] own (outside-own f hosts {old = c.args.self.now} {trees = c.add_outer.new.self} own around c.in_ok-outer.ensures.grown
    c.in_ok-outer.ensures.trees c.in_ok-outer.ensures.within c.in_ok-outer.ensures.there) refl c.in_ok-place.ensures.trees c.in_ok-place.ensures.place in
    let last = outside-last f hosts [] end (λ h. omega (arith, h)) in
    record { grown = end.grown; trees = end.are; within = last.0; place = last.1 }
