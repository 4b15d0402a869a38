use Rattle.std.proofs.Common.{ℕ, length, ap, sym, ◌∙◌, arith}
use Rattle.std.proofs.lemmas.List.{length_push}
use Rattle.dom_base.specs.declared.NodeName.{NodeName}
use Rattle.dom_model.specs.Tree.{children_of, node_in}
use Rattle.dom_tree.specs.Definitions.{IsNode}
use Rattle.dom_callers.proofs.items.add_item.Goals as goal

-- a node is one still
still : (c : goal.After-link_before) → (k : ℕ) → IsNode c.args.forest.now k → IsNode c.add.new.self k
still c k node = let more = ap (length {A = NodeName}) c.in_ok-key.ensures.names ∙ length_push c.args.forest.now.names _ in omega arith

pub returns-clause-others : goal.returns-clause-others
returns-clause-others c = λ k node other.
    let mid = c.add.new.self in
    let new = c.link_before.new.self in
    let named = c.in_ok-key.ensures.named k node in
    ap (children_of new.trees) (sym named) ∙ c.link_before.ensures.others k (still c k node) other
    ∙ ap (children_of mid.trees) named ∙ c.in_ok-key.ensures.children k node

pub returns-clause-held : goal.returns-clause-held
returns-clause-held c = λ k node.
    let mid = c.add.new.self in
    let new = c.link_before.new.self in
    let named = c.in_ok-key.ensures.named k node in
    ap (node_in new.trees) (sym named) ∙ c.link_before.ensures.held k (still c k node)
    ∙ ap (node_in mid.trees) named ∙ c.in_ok-key.ensures.held k node
