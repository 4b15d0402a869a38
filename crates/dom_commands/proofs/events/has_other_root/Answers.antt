use Rattle.dom_commands.proofs.Cited.{◌≡◌, List, not, ap, ◌∙◌, NodeWord, word_view, name_at, read_own, key-test, owner-named, read_at}
use Rattle.dom_model.proofs.Model.{NodeName, name_eq, root_of, named, part_of}
use Rattle.dom_commands.proofs.events.has_other_root.Goals as goal

pub returns : goal.returns
returns c =
    let w = c.state.inside.doc.world in
    let o = c.args.owner in
    let f = c.forest-forest.result.now in
    let at : NodeWord → NodeName = λ s. named (part_of w o) (word_view s) in
    let node_is : name_at c.state.inside.doc.names c.key-node.result ≡ at c.args.node = rw (← c.state.view_is) at c.key-node.ensures.name in
    let other_is : name_at c.state.inside.doc.names c.key-other.result ≡ at c.args.other = rw (← c.state.view_is) at c.key-other.ensures.name in
    let node_here = ap (λ (names : List NodeName). name_at names c.key-node.result) c.forest-forest.ensures.names ∙ node_is in
    let other_here = ap (λ (names : List NodeName). name_at names c.key-other.result) c.forest-forest.ensures.names ∙ other_is in
    let root = c.root-root.ensures.value
    ∙ read_at root_of f.trees node_here (c.forest-forest.ensures.trees o)
    (read_own f.trees c.forest-forest.ensures.owned o (at c.args.node) (owner-named w o (word_view c.args.node))).root in
    let other_root = c.root-other_root.ensures.value
    ∙ read_at root_of f.trees other_here (c.forest-forest.ensures.trees o)
    (read_own f.trees c.forest-forest.ensures.owned o (at c.args.other) (owner-named w o (word_view c.args.other))).root in
    rw (← c.state.view_is)
    (c.ne.ensures ∙ ap not (key-test f.names c.law_nodes_stand_once.ensures.distinct c.root-root.result c.root-other_root.result
    c.root-root.ensures.node c.root-other_root.ensures.node
    ∙ ap (λ (y : NodeName). name_eq y (name_at f.names c.root-other_root.result)) root ∙
    ap (name_eq (root_of (part_of w o).trees (at c.args.node))) other_root))
