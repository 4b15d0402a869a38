use Rattle.dom_query_commands.proofs.Cited.{◌∙◌, List, ap, NodeName, is_in, name_eq, is_inclusive_ancestor, name_in, name_at, read_of}
use Rattle.dom_query_commands.proofs.reads.is_above.Goals as goal

pub is_inclusive_ancestor-requires-clause-above_is_node : goal.is_inclusive_ancestor-requires-clause-above_is_node
is_inclusive_ancestor-requires-clause-above_is_node c = rw (c.forest.ensures.names) c.requires.above_is_node

pub is_inclusive_ancestor-requires-clause-key_is_node : goal.is_inclusive_ancestor-requires-clause-key_is_node
is_inclusive_ancestor-requires-clause-key_is_node c = rw (c.forest.ensures.names) c.requires.node_is_node

pub returns : goal.returns
returns c =
    let s = c.args.state.now in
    let now = c.forest.result.now in
    let f = c.forest.ensures in
    let above = name_in s c.args.above in
    c.is_inclusive_ancestor.ensures
    ∙ ap (λ (names : List NodeName). is_inclusive_ancestor now.trees (name_at names c.args.above) (name_at now.names c.args.node)) f.names
    ∙ read_of s _ (λ ts y. is_inclusive_ancestor ts above y) f.names f.owned f.trees (λ o x own. ap (is_in name_eq above) own.path)
