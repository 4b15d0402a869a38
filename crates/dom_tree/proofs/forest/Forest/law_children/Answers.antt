use Rattle.dom_base.proofs.Std.{◌∷◌, length, ap, sym, arith, length-map}
use Rattle.node_arena.specs.Nodes.{children_of}
use Rattle.dom_laws.proofs.Laws.{Once, from_first, from_next, last_apart}
use Rattle.dom_tree.specs.Definitions.{NamedTrees, name_at}
use Rattle.dom_tree.proofs.ChildLists.{child_apart, child_once}
use Rattle.dom_tree.proofs.Kept.{within}
use Rattle.dom_tree.proofs.Once.{shows_once, shows_only}
use Rattle.dom_tree.proofs.Standing.{Once-forest}
use Rattle.dom_tree.proofs.Walks.{few_children, shows_children}
use Rattle.dom_tree.proofs.forest.Forest.law_children.Goals as goal

once : (c : goal.After-self) → Once c.args.self.now.trees
once c = Once-forest c.args.self.now (shows_once c.self.view_is c.self.invariant.kept) (shows_only c.self.view_is c.self.invariant.kept)

pub returns-clause-begin : goal.returns-clause-begin
returns-clause-begin c = from_first c.args.self.now.trees (once c)

pub returns-clause-step : goal.returns-clause-step
returns-clause-step c = λ x. ap (λ xs. x ∷ xs) (sym (from_next c.args.self.now.trees (once c) x))

pub returns-clause-last : goal.returns-clause-last
returns-clause-last c = last_apart c.args.self.now.trees (once c)

pub returns-clause-once : goal.returns-clause-once
returns-clause-once c = child_once c.args.self.now.trees (once c)

pub returns-clause-apart : goal.returns-clause-apart
returns-clause-apart c = child_apart c.self.view_is c.self.invariant.kept

pub returns-clause-fewer : goal.returns-clause-fewer
returns-clause-fewer c = λ k node.
    let f = c.args.self.now in
    let lists = c.self.inside.arena.children in
    let paired = c.self.invariant.kept.paired in
    let inside = within c.self.view_is c.self.invariant.kept k node in
    let below = few_children lists c.self.invariant.kept.forest k (omega arith) in
    let shown = ap length (shows_children c.self.view_is c.self.invariant.kept k node) in
    let mapped = length-map (children_of lists k) (name_at f.names) in
    let named = ap (λ (g : NamedTrees). length g.names) c.self.view_is in
    let stored = length-map c.self.inside.arena.payloads (λ s. s.name) in
    omega arith
