use Rattle.dom_node_commands.proofs.Handlers.{◌∙◌, ap, attribute_value, node_in, read_of, string_or_null}
use Rattle.dom_node_commands.proofs.attributes.attribute_value.Goals as goal

pub attr-requires : goal.attr-requires
attr-requires c = rw (c.forest.ensures.names) c.requires

pub returns-in-Some : goal.returns-in-Some
returns-in-Some c =
    let f = c.forest.ensures in
    ap string_or_null (c.in-Some.ensures
    ∙ read_of c.args.state.now _ (λ ts y. attribute_value (node_in ts y) c.args.name.now) f.names f.owned f.trees (λ o x own. own.attribute _))

pub returns-in-None : goal.returns-in-None
returns-in-None c =
    let f = c.forest.ensures in
    ap string_or_null (c.in-None.ensures
    ∙ read_of c.args.state.now _ (λ ts y. attribute_value (node_in ts y) c.args.name.now) f.names f.owned f.trees (λ o x own. own.attribute _))
