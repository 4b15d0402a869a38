use Rattle.dom_path.proofs.Cited.{◌≡◌, None, Some, sym, ap, subst, ◌∙◌, arith, option_map, name_at, Once-forest, Has-forest, host-named, host-node, PathNode}
use Rattle.dom_path.proofs.Cited.{IsPathNode}
use Rattle.dom_path.proofs.Goings.{stand-made}
use Rattle.dom_path.proofs.Steps.{tree-outside}
use Rattle.dom_path.proofs.path_node.PathNode.outside.Goals as goal

pub returns-in_err-host-clause-value : goal.returns-in_err-host-clause-value
returns-in_err-host-clause-value c =
    let f = c.args.forest.now in
    let none : c.host_of.result ≡ None = c.in_err-host.was in
    ap (option_map (λ (x : PathNode). name_at f.names x.node)) c.from_residual.ensures
    ∙ ap (option_map (name_at f.names)) (sym none ∙ c.host_of.ensures)
    ∙ host-named f.names c.law_nodes_stand_once.ensures.distinct c.args.slots.now.hosts c.requires.slots.hosts c.args.self.now.node c.requires.stands.node

pub in_tree-requires : goal.in_tree-requires
in_tree-requires c = host-node c.args.forest.now.names c.args.slots.now.hosts c.requires.slots.hosts c.args.self.now.node c.in_ok-host.host
    (sym c.in_ok-host.ensures)

pub returns-clause-stands : goal.returns-clause-stands
returns-clause-stands c = λ x e.
    let f = c.args.forest.now in
    let hosts = c.args.slots.now.hosts in
    let self = c.args.self.now in
    let host = c.in_ok-host.host in
    let trees = c.args.trees.now in
    let e' = c.law_nodes_stand_once.ensures in
    let named = sym (host-named f.names e'.distinct hosts c.requires.slots.hosts self.node c.requires.stands.node) ∙
    ap (option_map (name_at f.names)) (sym c.in_ok-host.ensures) in
    let same : c.in_tree.result ≡ x = cc in
    subst (IsPathNode f hosts trees) same
    (stand-made f hosts c.in_tree.ensures.node c.in_tree.ensures.tree c.in_tree.ensures.shadow
    (host-node f.names hosts c.requires.slots.hosts self.node host (sym c.in_ok-host.ensures))
    (let below = (c.requires.trees.nested self.tree c.at-tree.result c.at-tree.ensures).within in let w = c.requires.stands.within in omega
    (arith, below, w))
    (tree-outside f hosts (Once-forest f e'.once e'.only) (record { are = c.requires.trees; stands = c.requires.stands; at = c.at-tree.ensures }) host
    (Has-forest f e'.once self.node c.requires.stands.node) named))

pub returns-clause-value : goal.returns-clause-value
returns-clause-value c =
    let f = c.args.forest.now in
    ap (λ k. Some (name_at f.names k)) c.in_tree.ensures.node
    ∙ ap (option_map (name_at f.names)) c.in_ok-host.ensures
    ∙ host-named f.names c.law_nodes_stand_once.ensures.distinct c.args.slots.now.hosts c.requires.slots.hosts c.args.self.now.node c.requires.stands.node
