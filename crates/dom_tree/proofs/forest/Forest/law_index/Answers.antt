use Rattle.dom_base.proofs.Std.{◌≡◌, arith}
use Rattle.dom_model.proofs.Model.{index_of}
use Rattle.dom_tree.proofs.Kept.{within, within_names}
use Rattle.node_arena.specs.Nodes.{place_of}
use Rattle.dom_tree.proofs.Walks.{place-within, shows_index}
use Rattle.dom_tree.specs.Definitions.{name_at}
use Rattle.dom_tree.proofs.forest.Forest.law_index.Goals as goal

pub returns : goal.returns
returns c = λ k node.
    let lists = c.self.inside.arena.children in
    let paired = c.self.invariant.kept.paired in
    let inside = within c.self.view_is c.self.invariant.kept k node in
    let below = place-within lists c.self.invariant.kept.forest k (omega arith) in
    let shown : place_of lists k ≡ index_of c.args.self.now.trees (name_at c.args.self.now.names k) = shows_index c.self.view_is c.self.invariant.kept k node in
    let there = within_names c.self.view_is c.self.invariant.kept (place_of lists k) (omega arith) in
    omega arith
